pub mod Bound
pub mod Deletions
pub mod Keep
pub mod Sweep
pub mod Trace
pub mod Valid
pub mod View
