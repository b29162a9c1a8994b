pub mod Public
mod Masks
mod Sets
mod FewHeld
mod FormNames
mod CheckerCorrectness
mod PlainSets
mod HeldLengths
mod Flows
mod WalkLaw
mod Refusals
mod CheckerByStatement
mod NamedLocks
mod Threads
mod DisciplinedContinuations
mod SmallSets
