pub mod Cases
pub mod FloatLaws
pub mod ZeroLaws
pub mod WholeLaws
pub mod WholeBits
