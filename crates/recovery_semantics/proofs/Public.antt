-- What crates above may use of this crate's proofs, passed on from one place. Declares nothing.
pub use Rattle.recovery_semantics.proofs.CommitsKeepInvariant.{LastStep, first_runs, last_step, path, prefix_runs, rest_after, same_other}
pub use Rattle.recovery_semantics.proofs.CrashesKeepInvariant.{crashed_are_stable, fresh_are_stable, none_yet}
pub use Rattle.recovery_semantics.proofs.Elements.{durable_in, live_in}
pub use Rattle.recovery_semantics.proofs.EventsKeepInvariant.{events_keep}
pub use Rattle.recovery_semantics.proofs.InvariantConsequences.{between_is_kept, between_is_stable, goes_alone, reads_are_right, since_is_persisted}
pub use Rattle.recovery_semantics.proofs.InvariantConsequences.{since_settles, since_stays, stored_is_since, writers_apart}
pub use Rattle.recovery_semantics.proofs.LastUnlocks.{last_after, last_alone, last_now, last_stays, unlocked_is_last}
pub use Rattle.recovery_semantics.proofs.Paths.{held_same, inner_along, inner_rest, none_some, solo_holders, writes_at_same, writes_more}
pub use Rattle.recovery_semantics.proofs.Schedules.{after_more, alone, counted_other, counted_own, equal_self, unequal_of}
pub use Rattle.recovery_semantics.proofs.ShortenedSchedules.{alone_no_hands, last_first, more_empty, none_left, none_of_other, others_left}
pub use Rattle.recovery_semantics.proofs.StableHistories.{index_map}
pub use Rattle.recovery_semantics.proofs.StepEffects.{number_unstored, store_inner, store_same, storing}
pub use Rattle.recovery_semantics.proofs.StepsKeepInvariant.{below_max}
pub use Rattle.recovery_semantics.proofs.UncommittedReleases.{held_before, held_now, left_is_free, prefix_hands}
pub use Rattle.recovery_semantics.proofs.VariableMemory.{at_spot, elements_past, memory_crashed, memory_loaded, memory_persisted, memory_stays, memory_stored}
pub use Rattle.recovery_semantics.proofs.VariableMemory.{variable_found, variable_past}
pub use Rattle.recovery_semantics.proofs.WholeExecutions.{executions_resume}
