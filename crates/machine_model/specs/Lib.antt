pub mod Objects
pub mod Machine
pub mod Executables
pub mod Frames
pub mod Schedule
