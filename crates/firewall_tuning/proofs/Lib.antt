pub mod FirewallLaws
pub mod TuningLaws
