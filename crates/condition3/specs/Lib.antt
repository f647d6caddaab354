pub mod Runs
pub mod Calls
pub mod ReferenceModel
pub mod Condition3
