-- A world is legal where it meets the clauses, and each of its moments is a legal world.
pub mod AnswersDue
pub mod Clauses
pub mod Facts
pub mod Histories
pub mod Prefixes
pub mod Reached
pub mod Stopped
pub mod TakenBack
