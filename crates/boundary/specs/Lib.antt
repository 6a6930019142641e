pub mod FromC
pub mod ToC
pub mod Maps
