pub mod CoefficientLaws
pub mod ExactWritingLaws
pub mod SumLaws
