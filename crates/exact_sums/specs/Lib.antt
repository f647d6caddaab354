pub mod ExactSums
pub mod Wrapped
pub mod Exact
