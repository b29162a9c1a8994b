mod Walks
mod Ascents
mod SameNames
mod ThreadSteps
mod LockNumbers
mod Runs
mod Worked
