mod NodeSteps
mod Runs
mod Lockstep
