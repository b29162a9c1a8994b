pub mod CompilableForms
pub mod Analyses
pub mod LiveKeys
pub mod links
