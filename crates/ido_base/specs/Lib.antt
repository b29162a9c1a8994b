pub mod Words
pub mod Layout
pub mod Locks
pub mod Locations
pub mod Places
pub mod Growth
