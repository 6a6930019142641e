pub mod Demands
pub mod Records
pub mod Bench
