pub mod Laws
pub mod Bench
