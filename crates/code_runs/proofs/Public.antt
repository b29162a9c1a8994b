-- What crates above may use of this crate's proofs, passed on from one place. Declares nothing.
pub use Rattle.code_runs.proofs.TraceComposition.{along, one, silent_from, straight_from, walk_answers}
