pub mod Dump
pub mod Replies
pub mod Texts
