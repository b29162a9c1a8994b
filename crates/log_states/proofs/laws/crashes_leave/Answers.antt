use Rattle.log_states.proofs.BoundaryCommits as committing
use Rattle.log_states.proofs.RecoveredRecords.{crashes_resume}
use Rattle.log_states.proofs.laws.crashes_leave.Goals as goal

pub returns-clause-boundary : goal.returns-clause-boundary
returns-clause-boundary c = committing.crashes_leave

pub returns-clause-between : goal.returns-clause-between
returns-clause-between c = committing.crashes_keep

pub returns-clause-resumed : goal.returns-clause-resumed
returns-clause-resumed c = crashes_resume
