pub use Rattle.file_fields.specs.Fields
pub use Rattle.file_fields.specs.Numbers
pub use Rattle.run_scripts.specs.Runs
pub mod Contents
pub mod ImageEncoder
pub mod ImageDecoder
pub mod links
