pub mod Complex
pub mod Wholes
pub mod Coefficients
pub mod PlusZero
