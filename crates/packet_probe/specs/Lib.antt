pub mod Fate
pub mod Filed
pub mod Kinds
pub mod PacketFile
pub mod Refusals
pub mod Value
