pub mod Public
mod Worked
mod WorkedRuns
mod StartedWorlds
mod Frames
mod EarlierLives
mod PendingSteps
mod WorkedSteps
mod ResumedRegisters
