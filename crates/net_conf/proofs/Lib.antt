pub mod ChainFacts
pub mod SameKeys
mod ApartLemmas
mod Endings
mod ListFacts
mod PluginFacts
mod RangeFacts
mod RangeLemmas
mod SetFacts
mod TuningFacts
mod TuningLemmas
mod ValueLemmas
