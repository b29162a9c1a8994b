pub mod MemSink
pub mod MemSource
pub mod SureSink
pub mod SureSource
pub mod GatheredBytes
