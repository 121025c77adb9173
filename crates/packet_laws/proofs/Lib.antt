mod Accepting
mod Checked
mod Equal
mod LegalHosts
mod Lists
mod MasqRules
mod Masquerading
mod Matching
mod Names
mod Packets
mod Rewriting
mod Settled
mod WantedRules
mod Ways
pub mod PluginRules
