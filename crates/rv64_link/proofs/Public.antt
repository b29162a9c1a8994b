-- What crates above may use of this crate's proofs, passed on from one place. Declares nothing.
pub use Rattle.rv64_link.proofs.Instructions.{more_instructions, no_instructions}
pub use Rattle.rv64_link.proofs.Places.{some_at, within}
