-- What callers cite is public; the rest is how `root` and `fused` are proved.
pub mod Laws
pub mod NoNearer
pub mod Bench
pub mod Determined
mod Digits
mod Rounding
mod Packing
mod Values
mod Placing
mod Jamming
mod Combining
mod WholeRoots
mod RootCases
mod Twice
mod ByDouble
