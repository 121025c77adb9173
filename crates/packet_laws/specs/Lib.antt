pub mod Complete
pub mod Packets
