-- What each answer says.
pub mod CutOff
pub mod Due
pub mod OfRuns
