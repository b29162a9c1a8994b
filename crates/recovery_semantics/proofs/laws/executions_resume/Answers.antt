use Rattle.recovery_semantics.proofs.WholeExecutions.{executions_resume, executions_settle}
use Rattle.recovery_semantics.proofs.laws.executions_resume.Goals as goal

pub returns-clause-kept : goal.returns-clause-kept
returns-clause-kept c = executions_resume

pub returns-clause-settled : goal.returns-clause-settled
returns-clause-settled c = executions_settle
