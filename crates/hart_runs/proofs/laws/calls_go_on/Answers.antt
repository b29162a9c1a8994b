use Rattle.hart_runs.proofs.CallSteps.{acquires_take, acquires_wait, releases_give, ends_end}
use Rattle.hart_runs.proofs.laws.calls_go_on.Goals as goal

pub returns-clause-takes : goal.returns-clause-takes
returns-clause-takes c = acquires_take

pub returns-clause-waits : goal.returns-clause-waits
returns-clause-waits c = acquires_wait

pub returns-clause-gives : goal.returns-clause-gives
returns-clause-gives c = releases_give

pub returns-clause-ends : goal.returns-clause-ends
returns-clause-ends c = ends_end
