mod Objects
mod Rounds
mod Telling
mod Whole
mod WithoutHost
