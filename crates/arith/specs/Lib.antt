pub mod Digit
pub mod Pattern
pub mod Root
pub mod Fused
pub mod Parts
