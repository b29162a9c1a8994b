pub mod Legs
pub mod Driven
pub mod Outcomes
pub mod links
