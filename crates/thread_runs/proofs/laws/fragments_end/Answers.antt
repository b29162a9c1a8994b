use Rattle.thread_runs.proofs.FragmentStarts.{arrivals_end, computes_end}
use Rattle.thread_runs.proofs.laws.fragments_end.Goals as goal

pub returns-clause-arrives : goal.returns-clause-arrives
returns-clause-arrives c = arrivals_end

pub returns-clause-computes : goal.returns-clause-computes
returns-clause-computes c = computes_end
