pub mod Growth
pub mod Tables
