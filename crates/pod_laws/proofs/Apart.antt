-- Which entries leave the objects of others.
pub mod Collections
pub mod Others
pub mod Rest
