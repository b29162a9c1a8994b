use Rattle.thread_runs.proofs.LockCalls.{locks_take, locks_wait}
use Rattle.thread_runs.proofs.UnlockAndEndCalls.{unlocks_give, ends_end}
use Rattle.thread_runs.proofs.laws.calls_are_made.Goals as goal

pub returns-clause-takes : goal.returns-clause-takes
returns-clause-takes c = locks_take c.steps_are_counted.ensures.calls

pub returns-clause-waits : goal.returns-clause-waits
returns-clause-waits c = locks_wait c.steps_are_counted.ensures.calls

pub returns-clause-gives : goal.returns-clause-gives
returns-clause-gives c = unlocks_give c.steps_are_counted.ensures.calls

pub returns-clause-ends : goal.returns-clause-ends
returns-clause-ends c = ends_end c.steps_are_counted.ensures.calls
