pub mod VariablesInWords
pub mod Logs
pub mod MemoryEffects
pub mod Variables
