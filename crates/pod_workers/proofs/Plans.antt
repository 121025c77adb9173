-- Plans that were joined, and what is so of well-formed ones.
pub mod Alone
pub mod Joined
pub mod Listed
pub mod WellFormedPlans
