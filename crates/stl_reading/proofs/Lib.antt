pub mod Unpacking
pub mod Bench
