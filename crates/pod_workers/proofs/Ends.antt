-- Each run ends: the calls and steps that are left to it.
pub mod CallsLeft
pub mod Falls
pub mod MostCalls
pub mod StepsLeft
