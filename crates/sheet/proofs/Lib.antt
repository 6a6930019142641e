-- What callers cite is public; the rest is how the text is read and written.
pub mod NotEmpty
pub mod Bench
pub mod Laws
pub mod Exact
pub mod Longest
pub mod Overlong
pub mod Most
pub mod Printing
mod Arrays
mod Alike
mod Steps
mod Formats
mod Numerals
mod Pieces
mod Rooms
mod Whole
