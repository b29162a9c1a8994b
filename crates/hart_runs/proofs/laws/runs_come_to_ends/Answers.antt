use Rattle.hart_runs.proofs.Delay.{steps_lower, harts_come}
use Rattle.hart_runs.proofs.laws.runs_come_to_ends.Goals as goal

pub returns-clause-lower : goal.returns-clause-lower
returns-clause-lower c = steps_lower

pub returns-clause-come : goal.returns-clause-come
returns-clause-come c = harts_come
