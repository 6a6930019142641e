pub mod Why
pub mod Law
