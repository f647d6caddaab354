pub mod Keyed
pub mod Kind
pub mod Setting
pub mod Places
pub mod Chains
pub mod Gaussian
pub mod Entries
