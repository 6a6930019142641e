pub mod Speed
pub mod Kept
pub mod Named
