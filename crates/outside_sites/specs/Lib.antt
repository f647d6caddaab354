pub mod Accepted
pub mod SystemItems
