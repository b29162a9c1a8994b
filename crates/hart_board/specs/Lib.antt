pub mod Journals
pub mod CoreTurns
pub mod BoardRule
pub mod Seats
pub mod links
