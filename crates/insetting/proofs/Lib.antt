pub mod Lengths
mod Joined
