pub mod SparseLaws
pub mod SuperoperatorTheorems
