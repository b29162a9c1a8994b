pub mod HartSeats
pub mod MovingCore
pub mod WholeRuns
