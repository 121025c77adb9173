-- What a task makes of a session, and what stays of its earlier tasks.
pub mod EachTask
pub mod LastRows
pub mod Numbered
pub mod StepAnswers
pub mod StepEnds
pub mod StepFields
pub mod StepRows
pub mod StepShapes
pub mod StepShares
pub mod StepViews
pub mod StepsHold
pub mod StepsKeep
