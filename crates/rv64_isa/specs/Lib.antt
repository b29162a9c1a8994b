pub mod Arithmetic
pub mod Formats
pub mod Rows
pub mod Programs
pub mod Signed
