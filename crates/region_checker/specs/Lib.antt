pub mod Conflicts
pub mod Labels
pub mod links
