pub mod Going
mod Adds
mod Checks
mod Names
mod Removals
