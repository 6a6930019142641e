pub mod Single
pub mod Whole
