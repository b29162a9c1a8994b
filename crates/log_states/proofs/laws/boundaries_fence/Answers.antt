use Rattle.log_states.proofs.BoundaryFences as counted
use Rattle.log_states.proofs.BoundaryCommits.{committed_after_fence}
use Rattle.log_states.proofs.laws.boundaries_fence.Goals as goal

pub returns-clause-two : goal.returns-clause-two
returns-clause-two c = counted.boundaries_fence

pub returns-clause-committed : goal.returns-clause-committed
returns-clause-committed c = committed_after_fence
