pub mod GroupingLaws
pub mod JudgedLaws
