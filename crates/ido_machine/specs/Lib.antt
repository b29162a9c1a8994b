pub mod Harts
pub mod Machines
pub mod links
