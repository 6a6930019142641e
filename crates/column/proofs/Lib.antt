pub mod Counts
pub mod Numbering
pub mod Telling
pub mod Parts
