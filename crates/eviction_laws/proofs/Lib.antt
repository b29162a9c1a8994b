mod Values
mod SameSteps
pub mod Public
