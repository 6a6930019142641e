pub mod Deciding
pub mod Finding
pub mod Telling
pub mod Walking
