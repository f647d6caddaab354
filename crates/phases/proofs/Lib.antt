pub mod ChangeLaws
pub mod ConjugateLaws
