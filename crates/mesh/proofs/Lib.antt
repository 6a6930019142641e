pub mod Jobs
pub mod Places
pub mod Moving
pub mod Bench
