pub mod Mesh
pub mod Laying
pub mod Lent
pub mod Faces
pub mod Plain
pub mod Steps
pub mod Windows
