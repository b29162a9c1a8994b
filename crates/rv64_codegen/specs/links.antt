pub mod Targets
pub mod LiveRegisters
pub mod Numbers
pub mod NumberedNames
pub mod Threads
pub mod Emission
