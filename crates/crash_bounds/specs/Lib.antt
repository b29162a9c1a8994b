pub mod Rounds
pub mod Entries
pub mod SettledAlike
pub mod Losses
pub mod Rates
