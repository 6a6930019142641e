pub mod Grid
pub mod HeightMap
pub mod Tests
pub mod Counts
pub mod Names
pub mod Calls
