-- What crates above may use of this crate's proofs, passed on from one place. Declares nothing.
pub use Rattle.rv64_isa.proofs.Words.{slot_of-word_of}
