pub mod Laws
pub mod Plugins
pub mod Wanted
