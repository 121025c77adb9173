-- What a book keeps, from its beginning and over each step and round.
pub mod Indexed
pub mod Kept
pub mod KeptAtBegin
pub mod KeptByNumber
pub mod Positions
pub mod ReadyByIndex
pub mod RoundDone
pub mod Rounds
pub mod RoundsAscend
