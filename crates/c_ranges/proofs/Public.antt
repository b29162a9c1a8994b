-- What crates above may use of this crate's proofs, passed on from one place. Declares nothing.
pub use Rattle.c_ranges.proofs.HeldNumberLists.{Pair, all_held, elements_is, zip_at, zip_found}
pub use Rattle.c_ranges.proofs.KnownReferences.{known_opened_all, says_so}
pub use Rattle.c_ranges.proofs.NullLists.{both_added, both_parts, next_left, none_left, passed}
pub use Rattle.c_ranges.proofs.ReferenceValues.{key_followed}
pub use Rattle.c_ranges.proofs.ReferencesKept.{ThreadIn, assign_followed, begins_so, references_hold, right_opened_all, stays_so, thread_in}
pub use Rattle.c_ranges.proofs.StepEvaluations.{key_expr, key_fits, lock_below, stops}
pub use Rattle.c_ranges.proofs.ValuesInRanges.{fits_element, foreseen}
