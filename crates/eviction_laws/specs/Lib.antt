pub mod Evictions
