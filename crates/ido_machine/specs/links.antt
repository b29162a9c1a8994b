pub mod LocalRuns
pub mod SignTables
