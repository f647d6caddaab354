pub mod ChainAnswers
pub mod HamiltonianProducts
