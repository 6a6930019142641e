pub mod Pieces
pub mod Facets
pub mod Filed
pub mod Unpacked
pub mod Law
