pub mod Jobs
pub mod Stored
