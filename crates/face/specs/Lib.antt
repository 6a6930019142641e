pub mod Lists
pub mod Vec
pub mod Texture
pub mod Speed
pub mod Face
pub mod Inset
pub mod Triangles
pub mod Shapes
