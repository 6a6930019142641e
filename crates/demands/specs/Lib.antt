pub mod Job
pub mod Calls
pub mod Records
pub mod Bench
