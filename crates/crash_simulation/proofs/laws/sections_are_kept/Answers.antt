use Rattle.crash_simulation.proofs.AccountsAfterEvents.{sections_are_kept}
use Rattle.crash_simulation.proofs.laws.sections_are_kept.Goals as goal

pub returns : goal.returns
returns c = sections_are_kept c.fragments_step.ensures c.cores_step.ensures c.local_stores_step.ensures c.fragments_go_on.ensures
