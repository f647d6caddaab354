pub mod Buffers
pub mod Records
