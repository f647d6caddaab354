pub mod OutsideLaws
pub mod AcceptedLaws
