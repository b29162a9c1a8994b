pub mod Public
mod VariableBounds
mod ElementsInWords
mod LogWords
mod StepEffects
mod MemoryAlongEvents
mod Digits
mod InitialMemory
mod Worked
mod Variables
