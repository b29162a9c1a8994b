-- What crates above may use of this crate's proofs, passed on from one place. Declares nothing.
pub use Rattle.thread_runs.proofs.Boundaries.{word_access}
pub use Rattle.thread_runs.proofs.BoundaryCleanCount.{few_cleans}
pub use Rattle.thread_runs.proofs.CallsNotStuck.{ends_are_well, locks_are_well, unlocks_are_well}
pub use Rattle.thread_runs.proofs.FragmentStarts.{arrivals_end, at_end, computes_end, locks_go_on, took_end, unlocks_go_on}
pub use Rattle.thread_runs.proofs.Graph.{any_at, assigns_local, next_by, next_follows}
pub use Rattle.thread_runs.proofs.LockCalls.{locks_take, locks_wait}
pub use Rattle.thread_runs.proofs.NodeSteps.{assignments_begin, nodes_begin}
pub use Rattle.thread_runs.proofs.OtherEventsKeepThreads.{others_keep_fragments}
pub use Rattle.thread_runs.proofs.PlacedPlans.{plans_are_placed}
pub use Rattle.thread_runs.proofs.RemainingSteps.{cleans_on, marks_are_bounded}
pub use Rattle.thread_runs.proofs.ThreadsAtCalls.{call_there}
pub use Rattle.thread_runs.proofs.ThreadsAtNodeCode.{cores_see_all, fragments_see_all, others_keep_cores, stays_are_at_core, threads_start}
pub use Rattle.thread_runs.proofs.UnlockAndEndCalls.{ends_end, unlocks_give}
