-- The hosts of a legal history: each is sound, and each call that a run makes may be made.
pub mod AddCalls
pub mod Asked
pub mod GoesWell
pub mod Lasts
pub mod OfPlugins
pub mod PluginCalls
pub mod Replies
pub mod Sound
pub mod Turns
