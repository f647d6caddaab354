pub mod Labels
pub mod LabelLaws
