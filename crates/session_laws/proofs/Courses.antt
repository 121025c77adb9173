-- What the runs of a course do to a host.
pub mod Added
pub mod Adding
pub mod Calls
pub mod Deleted
pub mod Deleting
pub mod Parts
pub mod QuietRuns
pub mod Ready
pub mod Runs
pub mod Unbegun
pub mod Unpooled
