pub mod Keeping
pub mod Plain
