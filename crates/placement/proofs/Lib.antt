pub mod Bench
mod Counting
pub mod Shifts
