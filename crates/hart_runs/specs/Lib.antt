pub mod HartsOnRuns
pub mod RunSteps
pub mod Calls
pub mod Laws
