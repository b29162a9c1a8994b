pub mod LockOrder
pub mod links
pub mod Faults
pub mod Laws
