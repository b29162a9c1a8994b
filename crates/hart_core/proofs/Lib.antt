pub mod Public
mod Accesses
mod StepOutcomes
mod LockSteps
mod Waits
mod Worked
