pub mod Calls
pub mod InlinedBodies
pub mod CallRanks
pub mod ReachedFunctions
pub mod KnownWeights
pub mod Weights
pub mod Faults
