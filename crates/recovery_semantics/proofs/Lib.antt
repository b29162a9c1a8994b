pub mod Public
mod StableHistories
mod StepEffects
mod Paths
mod Schedules
mod StepsKeepInvariant
mod CrashesKeepInvariant
mod ShortenedSchedules
mod CommitsKeepInvariant
mod InvariantConsequences
mod EventsKeepInvariant
mod WholeExecutions
mod Worked
mod UncommittedReleases
mod LastUnlocks
mod Elements
mod VariableMemory
mod WorkedWords
