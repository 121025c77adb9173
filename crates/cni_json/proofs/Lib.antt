pub mod Ascending
pub mod Building
pub mod Depths
pub mod EachLemmas
pub mod Endings
pub mod KeptMembers
pub mod Steps
pub mod WholeNumbers
mod LineFeed
mod Lines
mod ObjectLemmas
mod OnLiterals
mod OutcomeLemmas
mod ReadingLemmas
