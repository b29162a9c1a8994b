pub mod Schemes
pub mod Layout
pub mod Points
pub mod SchemeFacts
