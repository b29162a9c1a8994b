-- What crates above may use of this crate's proofs, passed on from one place. Declares nothing.
pub use Rattle.hart_core.proofs.StepOutcomes.{changed_end, found_set, same_end, set_found}
pub use Rattle.hart_core.proofs.Waits.{step-waits}
