-- What crates above may use of this crate's proofs, passed on from one place. Declares nothing.
pub use Rattle.run_tracker.proofs.Events.{played_is, sections_more, weight-after}
