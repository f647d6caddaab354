pub mod EntryLaws
pub mod RowLaws
pub mod MaskEntryLaws
