pub mod KindLemmas
mod LeaseLemmas
