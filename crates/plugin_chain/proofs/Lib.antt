pub mod BackCalls
pub mod GivenAddresses
pub mod OwnCalls
pub mod PluginLaws
pub mod WantedShare
