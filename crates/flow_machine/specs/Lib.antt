pub mod Answers
pub mod links
pub mod Flows
pub mod Lockstep
