pub mod ComputingCode
pub mod Constants
pub mod Sequences
pub mod StraightLineCode
pub mod links
