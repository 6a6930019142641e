pub mod Putting
pub mod Testing
pub mod Bench
