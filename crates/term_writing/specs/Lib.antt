pub mod WritingAnswers
pub mod Numbered
pub mod Checked
