-- What a DEL removes, and that it stays gone.
pub mod Entries
pub mod FirstEntries
pub mod InTurn
pub mod Removals
pub mod Repeated
