pub mod Public
mod Worlds
mod RunStepEffects
mod OtherEventsKeepRuns
mod Memory
mod CallSteps
mod RecoverySteps
mod WorldAfterCrash
mod Delay
mod Queues
mod QueuePersistence
mod NoStuckHarts
mod CallCounts
mod Worked
