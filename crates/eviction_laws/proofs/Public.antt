-- What crates above may use of this crate's proofs, passed on from one place. Declares nothing.
pub use Rattle.eviction_laws.proofs.SameSteps.{GoesAlike, IsOut, alike_refl, evictions_only_persist, lives_enter_none}
pub use Rattle.eviction_laws.proofs.SameSteps.{others_enter_none, starts_enter_none, step_alike, stays_out}
