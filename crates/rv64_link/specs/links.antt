pub mod Layout
pub mod LabelRepresentation
pub mod Threads
