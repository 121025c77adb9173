-- The order of commands and entries, and that one order has one outcome.
pub mod Appended
pub mod DoneBefore
pub mod FileOrder
pub mod OneOutcome
pub mod Order
