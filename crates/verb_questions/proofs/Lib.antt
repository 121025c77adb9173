pub mod Asked
pub mod QuestionCounts
mod Gathered
