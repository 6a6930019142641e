pub mod Caps
pub mod Laws
