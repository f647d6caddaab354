pub mod Lists
pub mod Record
pub mod Masks
pub mod Verdicts
pub mod Answers
