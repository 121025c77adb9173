-- That an attachment has only what an ADD of it asked for.
pub mod AskedWith
pub mod CachedResults
pub mod MadeLinks
pub mod Moments
pub mod Quiet
pub mod StillAsked
