pub mod Cases
pub mod ChangeLemmas
pub mod Deletes
pub mod DropsOwn
pub mod EveryCall
pub mod Isolation
pub mod Lasts
pub mod LeasedAddress
pub mod Leases
pub mod ListLemmas
pub mod Namespaces
pub mod Outside
pub mod Removal
pub mod Replies
pub mod SoundHosts
pub mod SoundOpening
pub mod ToldByKeys
pub mod TouchRemoval
mod Adds
mod Append
mod LinkSet
mod OneList
