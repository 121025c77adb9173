-- How a VERSION and a change from outside are answered.
pub mod Changes
pub mod Versions
