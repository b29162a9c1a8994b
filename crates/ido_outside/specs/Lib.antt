pub mod Causes
pub mod Sink
pub mod Source
pub mod links
