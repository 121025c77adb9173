pub mod Command
pub mod Parse
pub mod Source
pub mod Words
