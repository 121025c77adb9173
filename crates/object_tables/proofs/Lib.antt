pub mod Kept
pub mod KeysOnce
pub mod Lists
pub mod Noted
pub mod Places
mod Along
mod Candidates
mod Owners
