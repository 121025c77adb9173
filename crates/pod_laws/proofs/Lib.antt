pub mod Added
pub mod Parts
mod Apart
mod AskedFor
mod Bounded
mod Checked
mod Collected
mod Deleted
mod Given
mod Guaranteed
mod Histories
mod LastAddresses
mod Names
mod Outside
mod Questions
mod Refused
mod Shares
mod StatusRuns
mod Tests
