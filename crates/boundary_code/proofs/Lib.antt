pub mod Public
mod EmptyLists
mod Registers
mod Banks
mod Points
mod LastBoundaries
mod MadeBoundaries
mod BoundaryParts
mod Sides
mod Worked
mod Lengths
