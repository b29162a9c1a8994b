-- What crates above may use of this crate's proofs, passed on from one place. Declares nothing.
pub use Rattle.lock_discipline.proofs.CheckerCorrectness.{keeps_length}
pub use Rattle.lock_discipline.proofs.DisciplinedContinuations.{held_is_held, set_left}
pub use Rattle.lock_discipline.proofs.Flows.{boundary_after_is, thread_sets_are}
pub use Rattle.lock_discipline.proofs.FormNames.{well_formed_has_names}
pub use Rattle.lock_discipline.proofs.HeldLengths.{held_length}
pub use Rattle.lock_discipline.proofs.Masks.{mask_of-bound}
pub use Rattle.lock_discipline.proofs.NamedLocks.{next_held, ref_at}
pub use Rattle.lock_discipline.proofs.PlainSets.{element_held}
