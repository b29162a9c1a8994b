-- What crates above may use of this crate's proofs, passed on from one place. Declares nothing.
pub use Rattle.source_machine.proofs.AppendedLives.{after_life, ended_life, runs_life}
pub use Rattle.source_machine.proofs.AppendedScheduleRuns.{after_appended, ended_appended, runs_appended}
pub use Rattle.source_machine.proofs.Discipline.{apart, run_keeps, set_long, start_keeps, step_keeps, stepped}
pub use Rattle.source_machine.proofs.DisciplinedContinuations.{keep_append, keep_opened_all, keeps_arm, keeps_assign, keeps_if, keeps_lock, keeps_while}
pub use Rattle.source_machine.proofs.Emission.{get_same}
pub use Rattle.source_machine.proofs.ExchangedSchedules.{LeadsAlong, exchange, locks_same, solo, steps_made, unlocks_held, unlocks_same}
pub use Rattle.source_machine.proofs.GuardedAccesses.{leaves_held, reads_guarded, writes_guarded}
pub use Rattle.source_machine.proofs.GuardedValues.{found_same, guarded_first, guarded_left, guarded_rest, guarded_right, held_found, held_there, value_same}
pub use Rattle.source_machine.proofs.HeldBeforeContinuations.{held_is_given, plain_is_given, set_is_one}
pub use Rattle.source_machine.proofs.HeldNames.{guards_each, holds_within, keep_list_length, plain_holds}
pub use Rattle.source_machine.proofs.KeptNames.{leaves_names}
pub use Rattle.source_machine.proofs.NoLockTransfer.{step_added, steps_dropped}
pub use Rattle.source_machine.proofs.SectionEndCases.{counted_as, counted_same, ends_same, ends_taken}
pub use Rattle.source_machine.proofs.StateRuns.{after_by, ends_by, goes_on, runs_by, split_at, step_found, step_missing}
pub use Rattle.source_machine.proofs.StepChanges.{Passed, Stepped, gives, locks_found, some_is, takes, unlocks_found, with_passed}
pub use Rattle.source_machine.proofs.StepSwaps.{mutex_passed, mutex_stays}
pub use Rattle.source_machine.proofs.StepsKeepOthers.{sizes_stay}
