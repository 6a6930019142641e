pub mod Laid
pub mod Single
pub mod Whole
