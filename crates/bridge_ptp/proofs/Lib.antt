pub mod BridgeLaws
pub mod PtpLaws
mod Shares
mod VethLemmas
