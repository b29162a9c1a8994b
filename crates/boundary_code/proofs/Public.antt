-- What crates above may use of this crate's proofs, passed on from one place. Declares nothing.
pub use Rattle.boundary_code.proofs.BoundaryParts.{code_does}
pub use Rattle.boundary_code.proofs.MadeBoundaries.{kept_parts}
pub use Rattle.boundary_code.proofs.Banks.{lock_slots_few, number_stored, stores_of}
pub use Rattle.boundary_code.proofs.Registers.{base_small, log_low}
pub use Rattle.boundary_code.proofs.EmptyLists.{empty_where, none_there, none_with, not_empty, some_there}
pub use Rattle.boundary_code.proofs.Sides.{fresh_on_side, stays_on_side}
