pub mod KindReadingLaws
pub mod NoiseValidAnswers
pub mod NoiseTheorems
