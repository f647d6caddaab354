pub mod Reals
pub mod RealAnswers
