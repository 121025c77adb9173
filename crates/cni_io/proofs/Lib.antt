pub mod Counts
mod KnownBytes
mod Stored
