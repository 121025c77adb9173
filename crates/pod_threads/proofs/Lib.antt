mod Counting
mod Entered
mod Recent
