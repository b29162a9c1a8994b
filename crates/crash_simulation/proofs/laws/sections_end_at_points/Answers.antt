use Rattle.crash_simulation.proofs.AccountsAfterEvents.{sections_end_at_points}
use Rattle.crash_simulation.proofs.laws.sections_end_at_points.Goals as goal

pub returns : goal.returns
returns c = sections_end_at_points c.fragments_step.ensures c.cores_step.ensures c.local_stores_step.ensures c.fragments_go_on.ensures
