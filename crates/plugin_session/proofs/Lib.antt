mod AddRuns
mod EarlyAdds
mod Endings
mod Names
mod Numbers
mod RanTasks
mod SessionKept
mod Turned
