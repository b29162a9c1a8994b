pub mod ObjectLives
pub mod LocalRuns
pub mod links
