-- What attachments have, and how calls change it.
pub mod DistinctLeases
pub mod Within
