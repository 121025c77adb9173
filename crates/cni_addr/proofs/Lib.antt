pub mod AddrTexts
pub mod Cases
pub mod CidrTexts
pub mod GroupTexts
pub mod Groups
pub mod KeyLists
pub mod Lists
pub mod MacTexts
pub mod Networks
pub mod Options
pub mod Tests
mod HexDigits
mod Spellings
