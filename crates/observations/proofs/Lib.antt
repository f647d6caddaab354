pub mod SameLaws
pub mod NumberLaws
