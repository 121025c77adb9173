pub mod Firewall
pub mod Tuning
