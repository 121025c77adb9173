pub mod Answers
pub mod Courses
pub mod Steps
mod Names
