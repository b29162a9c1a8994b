pub mod Roles
pub mod Variables
pub mod links
