-- What an ADD makes, call by call.
pub mod Achieved
pub mod Bridges
pub mod Footing
pub mod HostBridges
pub mod Prefixes
pub mod Stands
