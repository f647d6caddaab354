pub mod ReadingLaws
pub mod StepLaws
pub mod PassLaws
pub mod ScaleLaws
pub mod ValidAnswers
pub mod HamiltonianProductAnswers
pub mod OperatorTheorems
