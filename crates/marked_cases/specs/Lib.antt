pub mod Outcomes
pub mod Table
