-- What crates above may use of this crate's proofs, passed on from one place. Declares nothing.
pub use Rattle.resume_recovery.proofs.RecoveryStepCases.{phase_read}
