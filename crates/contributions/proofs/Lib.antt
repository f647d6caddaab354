pub mod ContributionLaws
pub mod ValueLaws
pub mod TurnLaws
pub mod HeldLaws
