use Rattle.thread_runs.proofs.FragmentStarts.{locks_go_on, unlocks_go_on, took_end}
use Rattle.thread_runs.proofs.laws.calls_are_left.Goals as goal

pub returns-clause-locks : goal.returns-clause-locks
returns-clause-locks c = locks_go_on

pub returns-clause-unlocks : goal.returns-clause-unlocks
returns-clause-unlocks c = unlocks_go_on

pub returns-clause-took : goal.returns-clause-took
returns-clause-took c = took_end
