pub mod Boundaries
pub mod links
