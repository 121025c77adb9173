pub mod Calls
pub mod Collected
pub mod Covered
pub mod Deletable
pub mod Deletions
pub mod Kept
pub mod Leaves
pub mod Lists
pub mod Machine
pub mod OfKinds
pub mod Owners
pub mod Removes
pub mod Weights
mod Indexed
mod Names
mod Phases
mod Places
mod Runs
