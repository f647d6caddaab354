pub mod Masked
pub mod NoiseRows
pub mod OpenRows
