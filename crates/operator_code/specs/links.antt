pub mod Digits
pub mod Immediates
pub mod InstructionLists
pub mod OperatorInstructions
