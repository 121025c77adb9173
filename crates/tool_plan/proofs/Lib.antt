mod Dues
mod GeneratedPlans
mod Inputs
mod Joined
mod Lists
mod Steps
mod Stopping
mod Whole
