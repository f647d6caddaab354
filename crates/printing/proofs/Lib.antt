pub mod SignedLaws
pub mod LineLaws
