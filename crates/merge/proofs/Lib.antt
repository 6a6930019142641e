-- What callers cite is public; the rest is how loops are proved.
pub mod Merging
mod Copying
pub mod Bench
pub mod Short
