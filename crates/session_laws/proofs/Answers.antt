-- When the run of a course ends, what it is answered, and for which cause.
pub mod Causes
pub mod Checked
pub mod Collected
pub mod Ends
pub mod Leased
