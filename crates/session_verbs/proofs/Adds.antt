-- How an ADD goes on and ends.
pub mod AddCalls
pub mod AddEnds
pub mod AddLeases
pub mod AddSteps
