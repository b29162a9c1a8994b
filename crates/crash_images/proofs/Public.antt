-- What crates above may use of this crate's proofs, passed on from one place. Declares nothing.
pub use Rattle.crash_images.proofs.Images.{source_version, state_in_parts}
