pub mod Kinds
pub mod Literals
pub mod Operators
pub mod Reduction
pub mod TypedNumbers
pub mod links
