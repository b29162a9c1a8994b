pub mod HeldCounts
