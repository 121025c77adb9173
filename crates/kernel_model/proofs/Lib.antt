pub mod RouteTests
pub mod SoundCalls
mod LeavingLinks
mod OnLeavingLinks
mod TaggedOwners
