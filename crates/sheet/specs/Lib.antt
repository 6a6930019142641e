pub mod Digits
pub mod Lent
pub mod Sheets
pub mod Readers
pub mod Meshes
pub mod Answering
