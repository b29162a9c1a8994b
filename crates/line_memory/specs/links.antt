pub mod Cells
pub mod Queues
pub mod MemoryRepresentation
