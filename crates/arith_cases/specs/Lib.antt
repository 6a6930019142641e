pub mod Cell
pub mod Counting
