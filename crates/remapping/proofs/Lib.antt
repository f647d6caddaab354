pub mod InsertLaws
pub mod TargetLaws
pub mod SortedLaws
pub mod RemapLaws
