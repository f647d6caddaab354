mod GapLaws
mod WritingLaws
mod NumberLaws
mod EntryLaws
pub mod Instances
pub mod ChainLaws
