pub mod RefusedColourings
pub mod links
