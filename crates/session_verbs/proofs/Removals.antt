-- The deletions of a task, and how a collection goes on.
pub mod KindEnds
pub mod Sweeping
pub mod TakenBack
