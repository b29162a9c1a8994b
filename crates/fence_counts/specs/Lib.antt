pub mod LoggedSteps
pub mod FenceCounts
