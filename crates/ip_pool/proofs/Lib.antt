pub mod Addresses
pub mod Choice
pub mod InOrder
pub mod Lists
pub mod Passing
pub mod Places
pub mod TakenAlone
mod Disjoint
mod Membership
mod RunMembers
mod RunPlaces
mod RunSearch
mod RunsJoined
mod RunsLeft
mod Stretches
mod WayRound
