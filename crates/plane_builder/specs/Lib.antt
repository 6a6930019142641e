pub mod Cap
pub mod Plane
