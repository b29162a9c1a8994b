pub mod Harts
pub mod Starts
pub mod Refusals
pub mod Waits
