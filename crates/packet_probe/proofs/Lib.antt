mod Filing
mod Found
mod KindMatches
mod KindOrder
mod Members
mod Networks
mod Places
