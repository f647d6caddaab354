pub mod InnerLaws
pub mod Orthogonality
pub mod ShareLaws
pub mod ProductLaws
pub mod ProbeLaws
pub mod Determined
pub mod KnownRows
