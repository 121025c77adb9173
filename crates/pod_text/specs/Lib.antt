pub mod Fates
pub mod Lines
pub mod Requests
pub mod Statuses
pub mod Summary
