pub mod AfterReplies
pub mod CallsOrOver
pub mod EarlyEndings
pub mod NextCalls
pub mod Openings
pub mod PhaseSteps
mod AddCalls
mod Ends
