-- What a GC leaves and answers.
pub mod Again
pub mod AloneRounds
pub mod Answered
pub mod Runs
