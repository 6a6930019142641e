pub mod Counts
pub mod Faces
pub mod Numbering
pub mod Reading
pub mod Taken
pub mod Walls
pub mod Worked
