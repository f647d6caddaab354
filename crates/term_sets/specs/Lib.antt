pub mod Keys
pub mod KeyInstances
pub mod Seen
pub mod Sets
pub mod Complexes
pub mod Matrices
pub mod Answers
