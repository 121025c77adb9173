pub mod Needs
pub mod Own
pub mod Promised
