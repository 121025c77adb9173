-- What a CHECK is answered.
pub mod CachedBridges
pub mod OutsideBridges
pub mod OwnWanted
pub mod Questions
pub mod Runs
pub mod Starts
