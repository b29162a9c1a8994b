mod LivenessFixpoint
mod ReadSets
mod CollectedSets
