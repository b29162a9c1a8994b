pub mod UnderWay
pub mod Parts
pub mod BoardRuns
