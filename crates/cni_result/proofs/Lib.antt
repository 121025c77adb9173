pub mod Depths
pub mod Lookups
pub mod ReadAgain
pub mod ResultLemmas
pub mod WholeNumbers
mod EntriesAgain
mod MappingAgain
mod ResultAgain
