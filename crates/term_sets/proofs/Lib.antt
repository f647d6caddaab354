pub mod SetLaws
pub mod ValidLaws
pub mod MaskLaws
pub mod MaskedLaws
pub mod HandedLaws
pub mod FoundLaws
pub mod ReadingLaws
