-- What crates above may use of this crate's proofs, passed on from one place. Declares nothing.
pub use Rattle.hart_runs.proofs.CallCounts.{calls_count}
pub use Rattle.hart_runs.proofs.CallSteps.{acquires_take, acquires_wait, ends_end, releases_give}
pub use Rattle.hart_runs.proofs.Delay.{cleans_of_both, cleans_of_mark, queue_grows}
pub use Rattle.hart_runs.proofs.Memory.{beside_agrees, drains_agree, evictions_agree, forward_agrees, persisted_agrees}
pub use Rattle.hart_runs.proofs.NoStuckHarts.{none_is_stuck}
pub use Rattle.hart_runs.proofs.OtherEventsKeepRuns.{moved_harts_begin, others_keep_runs, others_leave}
pub use Rattle.hart_runs.proofs.QueuePersistence.{cleans_reach_now, drains_reach, fences_settle, forward_reaches, others_reach}
pub use Rattle.hart_runs.proofs.Queues.{queues_stay_short, starts_are_short}
pub use Rattle.hart_runs.proofs.RecoverySteps.{resumes_step, stopped_stay, takes_step, waits_step}
pub use Rattle.hart_runs.proofs.RunStepEffects.{steps_go_on}
pub use Rattle.hart_runs.proofs.WorldAfterCrash.{crashes_step}
pub use Rattle.hart_runs.proofs.Worlds.{by_phase, effect_is, none_some, same_there, some_same}
