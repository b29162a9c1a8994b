pub mod Public
mod Words
mod NodeContinuations
mod Lockstep
mod NodeCounts
mod SuccessorsInThread
mod Shapes
mod Locations
mod HeldKeys
mod ElementsInLocations
mod GraphStateInvariants
mod Paths
mod Worked
mod WorkedSets
mod WorkedColours
mod WorkedActions
mod WorkedHeldKeys
