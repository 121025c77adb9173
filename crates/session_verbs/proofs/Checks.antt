-- What a CHECK asks.
pub mod Asking
pub mod Entered
