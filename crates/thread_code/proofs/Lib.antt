pub mod Public
mod HeldLocks
mod KeptRegistersAtNodes
mod Locals
