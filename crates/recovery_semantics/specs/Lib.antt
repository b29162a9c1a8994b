pub mod ElementHistories
pub mod Attempts
pub mod Configs
pub mod Events
pub mod Executions
pub mod Laws
pub mod Elements
pub mod VariableSpots
