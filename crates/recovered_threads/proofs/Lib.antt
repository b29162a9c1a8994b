pub mod Public
mod NodesBeforeSteps
mod HeldNumbers
mod RecordedLocks
mod ChangedWorlds
mod GatheringSteps
mod RecoveryAfterCrash
mod GatheredLocks
mod ResumedHarts
mod CommittedRecords
mod Events
mod OrderlyStates
mod HomesByColour
mod CountedWords
mod Boundaries
mod LivenessAtUnlocks
mod LogsDescribeState
mod Worked
