pub mod Values
pub mod TermContributions
