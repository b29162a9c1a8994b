-- What crates above may use of this crate's proofs, passed on from one place. Declares nothing.
pub use Rattle.image_checks.proofs.AssignedNumbers.{assigned_refers}
pub use Rattle.image_checks.proofs.BankLocals.{found_local, local_at, locals_held}
pub use Rattle.image_checks.proofs.GuardedStores.{IsGuardedStore, guarded_store, key_is_held, key_of}
pub use Rattle.image_checks.proofs.HeldNumbers.{AreApart, AreKeysAmong, apart_by, found_name, keys_alive, live_same, locks_are, locks_same}
pub use Rattle.image_checks.proofs.HeldNumbers.{loggable, name_below, named_there, once_by}
pub use Rattle.image_checks.proofs.HeldSets.{named_held, part_is}
pub use Rattle.image_checks.proofs.IdleLogs.{idle_state_sound}
pub use Rattle.image_checks.proofs.KeysBesideAssignments.{counted_beside}
pub use Rattle.image_checks.proofs.LeftFrames.{bytes_of_element, no_frame, one_assigned, word_of}
pub use Rattle.image_checks.proofs.LeftFiles.{IsWhole, left_is_whole}
pub use Rattle.image_checks.proofs.LeftVariables.{left_refer}
pub use Rattle.image_checks.proofs.LivesLaws.{lives_few, none_in_lives, told_again}
pub use Rattle.image_checks.proofs.LoggedWords.{above_frame, locks_each, locks_there, point_is, recorded_there}
pub use Rattle.image_checks.proofs.OneFault.{none_if_sound, unshared}
pub use Rattle.image_checks.proofs.ReferenceWords.{IsLong, few_elements, reference_of_word, refers_by, some_of_word, variable_long, word_by_bytes}
pub use Rattle.image_checks.proofs.StoredElements.{StoresAs, StoresElements, stores_elements}
pub use Rattle.image_checks.proofs.Tables.{table_kinds, table_room, table_slots}
pub use Rattle.image_checks.proofs.ThreadTexts.{knowns_are, refers_are, zip_there}
