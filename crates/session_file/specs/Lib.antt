pub mod SessionFile
pub mod Tasks
pub mod WellFormed
