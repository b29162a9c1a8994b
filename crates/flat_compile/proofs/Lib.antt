pub mod Public
mod LinkedThreads
mod CleanFlags
mod OmittedCleanList
mod Systems
mod Limits
mod HeldNumbers
mod MasksOfSets
mod Plans
mod ResumeAddresses
mod SpotsApart
mod ResumeEntries
mod ResumedNodes
mod LiveLocals
mod LoggedAssignments
mod KnownSteps
mod Tables
