pub mod Lengths
pub mod ScriptViews
pub mod Goals
pub mod ReportViews
pub mod WordLengths
pub mod RunViews
pub mod JournalSteps
pub mod Evictors
