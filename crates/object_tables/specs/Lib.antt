pub mod Keyed
pub mod Leased
pub mod Places
pub mod Rows
pub mod Table
pub mod Trails
