pub mod Entries
pub mod MaskEntries
pub mod Answers
pub mod PairColumns
