pub mod BoundaryParts
pub mod InstructionLists
