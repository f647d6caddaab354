pub mod SetLaws
pub mod ValidLaws
pub mod Instances
