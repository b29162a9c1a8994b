mod ReachedByMarks
mod RegionPaths
mod PropagationPasses
mod Nodes
mod LeastNumbers
mod FoundConflicts
mod CollectedLocations
mod SteepRegions
