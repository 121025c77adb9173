mod Finds
mod Numbers
pub mod OwnCalls
