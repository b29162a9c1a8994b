pub mod Masks
pub mod HeldSetsByStep
pub mod links
pub mod Faults
pub mod NamedForms
pub mod Discipline
pub mod StepContinuations
pub mod FormLaws
