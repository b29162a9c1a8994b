pub mod ComputingRuns
pub mod CodeTraces
