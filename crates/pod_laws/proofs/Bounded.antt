-- How many calls a run makes at most.
pub mod Runs
pub mod Verbs
