pub use Rattle.file_fields.specs.Fields
pub use Rattle.file_fields.specs.Numbers
pub mod Contents
pub mod ObjectEncoder
pub mod ObjectDecoder
pub mod links
