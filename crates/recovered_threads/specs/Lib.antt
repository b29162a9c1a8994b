pub mod RecordDescriptions
pub mod RecoveryStates
pub mod Machines
pub mod Laws
