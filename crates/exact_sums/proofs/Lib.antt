pub mod HalfLaws
pub mod UnitLaws
pub mod ExactLaws
pub mod ExactCases
pub mod DeliveredLaws
