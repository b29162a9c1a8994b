pub mod CountingCore
pub mod MovingCore
