pub mod AddrSets
pub mod Laws
pub mod NextAddress
pub mod Pool
pub mod RunEdits
pub mod Runs
pub mod WayRound
