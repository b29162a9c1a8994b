use Rattle.thread_runs.proofs.ResumedThreads.{resumed_go_on}
use Rattle.thread_runs.proofs.laws.resumed_go_on.Goals as goal

pub returns : goal.returns
returns c = resumed_go_on
