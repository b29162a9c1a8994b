-- What crates above may use of this crate's proofs, passed on from one place. Declares nothing.
pub use Rattle.known_references.proofs.DurableNumbers.{durable_refer, zero_refers}
pub use Rattle.known_references.proofs.KnownAfterSteps.{kept_unnull}
pub use Rattle.known_references.proofs.OwnNodes.{assigned_leads, found_or}
