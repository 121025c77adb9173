pub mod Laws
pub mod Reports
pub mod Runs
pub mod Seen
pub mod Statuses
