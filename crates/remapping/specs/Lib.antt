pub mod Targets
pub mod Insertion
