pub mod Counted
pub mod Guarded
pub mod Nowhere
