use Rattle.thread_runs.proofs.ThreadsAtNodeCode.{fragments_see_all, cores_see_all}
use Rattle.thread_runs.proofs.laws.fragments_see_all.Goals as goal

pub returns-clause-fragments : goal.returns-clause-fragments
returns-clause-fragments c = fragments_see_all

pub returns-clause-cores : goal.returns-clause-cores
returns-clause-cores c = cores_see_all
