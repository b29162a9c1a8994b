-- What crates above may use of this crate's proofs, passed on from one place. Declares nothing.
pub use Rattle.line_memory.proofs.HistoriesGrow.{RepresentsQueue-drained, RepresentsQueue-evicted, RepresentsQueue-stored}
