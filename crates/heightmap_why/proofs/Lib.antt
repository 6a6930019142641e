pub mod Telling
pub mod Law
pub mod Calls
pub mod Worked
