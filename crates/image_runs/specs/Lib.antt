pub mod Shapes
pub mod StateImages
pub mod Laws
