pub mod Laws
pub mod Depths
pub mod links
