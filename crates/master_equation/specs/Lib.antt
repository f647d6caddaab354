pub mod Equation
pub mod Numbers
pub mod Contributions
pub mod Sums
