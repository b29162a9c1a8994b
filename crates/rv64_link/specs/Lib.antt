pub mod LabelledCode
pub mod LinkedCode
pub mod links
