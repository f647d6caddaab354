pub mod RemapAnswers
