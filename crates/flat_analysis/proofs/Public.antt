-- What crates above may use of this crate's proofs, passed on from one place. Declares nothing.
pub use Rattle.flat_analysis.proofs.LiveKeys.{held_keys_are_live}
