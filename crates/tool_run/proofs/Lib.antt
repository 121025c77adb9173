mod Carried
mod Determined
mod Endings
mod SessionRuns
mod Verdicts
