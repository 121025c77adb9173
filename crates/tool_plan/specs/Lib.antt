pub mod Causes
pub mod Dues
pub mod Lines
pub mod Refusals
pub mod Seen
pub mod Verdict
