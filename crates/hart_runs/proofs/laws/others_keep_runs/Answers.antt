use Rattle.hart_runs.proofs.OtherEventsKeepRuns.{others_leave, others_keep_runs}
use Rattle.hart_runs.proofs.laws.others_keep_runs.Goals as goal

pub returns-clause-hart : goal.returns-clause-hart
returns-clause-hart c = others_leave

pub returns-clause-run : goal.returns-clause-run
returns-clause-run c = others_keep_runs
