-- What crates above may use of this crate's proofs, passed on from one place. Declares nothing.
pub use Rattle.recovered_threads.proofs.Boundaries.{boundaries_recover, core_none, entry_none, few_bytes, kept_before_is, kept_is, none_contained}
pub use Rattle.recovered_threads.proofs.ChangedWorlds.{same_or_other, same_there}
pub use Rattle.recovered_threads.proofs.CommittedRecords.{commits_describe, others_describe}
pub use Rattle.recovered_threads.proofs.CountedWords.{assigned_is_apart, words_are_listed, words_exist}
pub use Rattle.recovered_threads.proofs.Events.{ready_stays}
pub use Rattle.recovered_threads.proofs.GatheredLocks.{gathered_are_kept, none_if, points_settle}
pub use Rattle.recovered_threads.proofs.GatheringSteps.{gathered_go_on, gathered_on, gathers_on, takes_never_wait, waits_for_takers}
pub use Rattle.recovered_threads.proofs.HomesByColour.{HasWord, has_word, stands_in_word}
pub use Rattle.recovered_threads.proofs.LivenessAtUnlocks.{assigned_is, free_after_lock, free_after_unlock, unlocks_enter}
pub use Rattle.recovered_threads.proofs.NodesBeforeSteps.{left_at, standing_at}
pub use Rattle.recovered_threads.proofs.OrderlyStates.{steps_orderly}
pub use Rattle.recovered_threads.proofs.RecordedLocks.{has_there, holds_none_is, locks_are_held, none_before, none_where, points_have_locks, records_are_apart}
pub use Rattle.recovered_threads.proofs.RecoveryAfterCrash.{crashes_gather, logs_have_locks}
pub use Rattle.recovered_threads.proofs.ResumedHarts.{harts_go_on, late_harts_go_on, resumed_there}
