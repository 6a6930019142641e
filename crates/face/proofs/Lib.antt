-- What callers cite is public; the rest is how rings are proved.
pub mod Laws
pub mod Bench
pub mod Filling
mod Ring
pub mod Wraps
