pub mod Points
pub mod LeastLockTaker
