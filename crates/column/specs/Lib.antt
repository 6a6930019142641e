pub mod Column
pub mod Counts
pub mod Names
pub mod Wall
