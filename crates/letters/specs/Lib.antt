pub mod Tests
pub mod Gauss
pub mod Sums
pub mod Matrices
pub mod Single
pub mod Rows
pub mod Answers
