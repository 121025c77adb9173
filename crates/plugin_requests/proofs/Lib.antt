pub mod Placed
pub mod RawFacts
mod RequestLimits
