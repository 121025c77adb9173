pub mod Adds
pub mod Asking
pub mod Journal
pub mod Sweeping
