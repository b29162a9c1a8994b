pub mod Public
mod TraceComposition
