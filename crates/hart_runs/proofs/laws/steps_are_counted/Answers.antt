use Rattle.hart_runs.proofs.CallCounts.{calls_count}
use Rattle.hart_runs.proofs.laws.steps_are_counted.Goals as goal

pub returns-clause-calls : goal.returns-clause-calls
returns-clause-calls c = calls_count
