pub mod Bounds
pub mod Faults
pub mod KnownAtSteps
pub mod Laws
pub mod RunInvariants
pub mod links
