use Rattle.thread_runs.proofs.ThreadsAtNodeCode.{threads_start}
use Rattle.thread_runs.proofs.laws.threads_start.Goals as goal

pub returns : goal.returns
returns c = threads_start
