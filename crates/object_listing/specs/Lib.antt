pub mod Instructions
pub mod ObjectListing
