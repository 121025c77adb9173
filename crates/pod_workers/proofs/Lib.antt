pub mod Books
pub mod Ends
pub mod Hosts
pub mod InOrder
pub mod Lists
pub mod Plans
pub mod Worlds
mod Names
