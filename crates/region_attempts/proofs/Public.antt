-- What crates above may use of this crate's proofs, passed on from one place. Declares nothing.
pub use Rattle.region_attempts.proofs.AttemptReads.{read_here, readers_guard, rerun_reads_nothing_overwritten, stored_before_read}
pub use Rattle.region_attempts.proofs.ExecutionsStayInRegion.{executions_stay}
pub use Rattle.region_attempts.proofs.GraphConfigs.{kept_good}
pub use Rattle.region_attempts.proofs.GraphFollowsSource.{graph_follows, graph_settles, graph_stands}
pub use Rattle.region_attempts.proofs.GraphRuns.{inner_runs, matched_after, own_step}
pub use Rattle.region_attempts.proofs.KnownStarts.{IsFirst, arms_first, first_in_all, none_known, start_known}
pub use Rattle.region_attempts.proofs.Nodes.{StoresHere, locking_at, owes_at, owing_at, unlocking_at, writing_stores}
pub use Rattle.region_attempts.proofs.Origins.{free_at_boundaries, life_origin, settled_may_begin, start_free, start_origin}
pub use Rattle.region_attempts.proofs.Region.{one_node}
pub use Rattle.region_attempts.proofs.RegionEndCleans.{stores_are_cleaned}
pub use Rattle.region_attempts.proofs.StepBisimulation.{IsThere, is_there, step_lockstep}
pub use Rattle.region_attempts.proofs.WholeAttempts.{attempts_are_whole}
