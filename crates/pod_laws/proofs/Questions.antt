-- What a CHECK and a STATUS ask.
pub mod Asking
pub mod Entries
pub mod SteadyHosts
