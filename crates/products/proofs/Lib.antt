pub mod PowerLaws
pub mod ProductTheorems
pub mod ProductCases
pub mod RowCases
pub mod ReadingLaws
