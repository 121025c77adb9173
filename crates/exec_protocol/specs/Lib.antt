pub mod Env
pub mod Laws
pub mod Reading
pub mod Refusals
pub mod Work
pub mod Works
