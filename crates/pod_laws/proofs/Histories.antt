-- What every history and every run of it has.
pub mod AloneRuns
pub mod Begins
pub mod EachEntry
pub mod Entries
pub mod RunFacts
pub mod Runs
pub mod States
pub mod Steps
pub mod Turns
