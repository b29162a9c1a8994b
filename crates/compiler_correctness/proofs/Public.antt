-- What crates above may use of this crate's proofs, passed on from one place. Declares nothing.
pub use Rattle.compiler_correctness.proofs.AbstractRunAccount.{kept_between, kept_is, now_is, settled_variables}
pub use Rattle.compiler_correctness.proofs.BoundedDelay.{gets_on_after}
pub use Rattle.compiler_correctness.proofs.LaterLives.{begun_state}
pub use Rattle.compiler_correctness.proofs.MachineLockstep.{begun_after, begun_none, variables_same}
pub use Rattle.compiler_correctness.proofs.MarksReached.{go_on_without_crash}
pub use Rattle.compiler_correctness.proofs.NodesOfThreads.{logs_it}
