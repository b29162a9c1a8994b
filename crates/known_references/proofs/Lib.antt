pub mod Public
mod KnownInBlocks
mod KnownAtNodes
mod OwnNodes
mod KnownAfterSteps
mod DurableNumbers
mod Worked
