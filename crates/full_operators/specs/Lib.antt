pub mod FullAnswers
