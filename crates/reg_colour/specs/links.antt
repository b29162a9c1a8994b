-- What links the code to the definitions.
pub mod Intervals
pub mod LinearScan
pub mod Threads
pub mod LeastClash
