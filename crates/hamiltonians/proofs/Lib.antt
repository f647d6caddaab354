pub mod RealSetLaws
pub mod RealValidLaws
pub mod RealValidAnswers
pub mod RealReadingLaws
pub mod HamiltonianTheorems
pub mod Instances
