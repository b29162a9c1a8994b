pub mod Public
mod Points
mod Lists
mod Registers
mod RecoveryStepCases
