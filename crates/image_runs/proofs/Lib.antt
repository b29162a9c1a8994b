pub mod Public
mod SpreadWords
mod SpreadReferences
mod ResumedLocals
mod AcceptedShapes
mod LeftShapes
mod LeftStatements
mod FollowedLocals
mod LeftKnowns
mod SureReferences
mod LeftReferences
mod MendedNumbers
mod GuardedElements
mod HeldAtNodes
mod RecordedWords
mod ResumedThreads
mod RecordedStates
mod ShapedRuns
