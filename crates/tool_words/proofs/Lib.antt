mod App
mod Counts
mod Given
mod Numbers
mod Saying
