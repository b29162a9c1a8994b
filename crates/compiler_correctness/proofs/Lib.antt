mod LaterLives
mod KeptSchedulePrefix
mod Sections
mod AbstractRunAccount
mod LockCalls
mod Records
mod MachineLockstep
mod NodesOfThreads
mod FramedLocals
mod CompiledCodeForm
mod ImagesAsCrashes
mod ImageWords
mod MarksReached
mod BoundedDelay
mod RecoveredRuns
mod SettledImages
pub mod Public
