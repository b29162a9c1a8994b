-- What crates above may use of this crate's proofs, passed on from one place. Declares nothing.
pub use Rattle.ido_base.proofs.Growth.{are_persisted_refl, changed_by_persisted, changed_refl, clean_entry, cleans_reach, durable_later, entries_append}
pub use Rattle.ido_base.proofs.Growth.{entries_stay, evictions_raise, higher_all, last_later, persisted_refl, reach_stays, same_last, stores_change, word_other}
pub use Rattle.ido_base.proofs.Growth.{word_same, write_backs_raise}
pub use Rattle.ido_base.proofs.LockLists.{has_cases, has_first, has_later}
pub use Rattle.ido_base.proofs.Masks.{least_of_mask, has_bit, mask_of_locks, missing_from, no_locks, none_high}
pub use Rattle.ido_base.proofs.Parts.{part_above, part_below, part_own}
