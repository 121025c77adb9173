pub mod FailingCalls
pub mod Failures
pub mod Files
pub mod Memory
pub mod Sink
pub mod Whole
