-- What crates above may use of this crate's proofs, passed on from one place. Declares nothing.
pub use Rattle.run_scripts.proofs.DrawnRuns.{run_valid}
pub use Rattle.run_scripts.proofs.EventBounds.{fault_by_bound}
pub use Rattle.run_scripts.proofs.MergedRuns.{runs_merged}
pub use Rattle.run_scripts.proofs.RunLaws.{IsRunWithin, each_step, few_runs, runs_tell}
