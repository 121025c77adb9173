-- Why an ADD is refused, and what it takes back.
pub mod Causes
pub mod Runs
pub mod Undoing
