pub mod MaskedLaws
pub mod HandedLaws
pub mod SystemTheorems
