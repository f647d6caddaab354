pub mod SamePlaces
pub mod ComparisonLaws
pub mod OrderingLaws
pub mod OrderLaws
