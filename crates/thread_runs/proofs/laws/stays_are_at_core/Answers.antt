use Rattle.thread_runs.proofs.ThreadsAtNodeCode.{stays_are_at_core}
use Rattle.thread_runs.proofs.laws.stays_are_at_core.Goals as goal

pub returns : goal.returns
returns c = stays_are_at_core
