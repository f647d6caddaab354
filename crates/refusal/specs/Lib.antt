pub mod Refusals
pub mod Texts
