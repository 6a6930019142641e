pub mod Options
pub mod Placing
pub mod Speed
