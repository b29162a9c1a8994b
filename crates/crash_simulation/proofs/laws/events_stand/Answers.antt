use Rattle.crash_simulation.proofs.AccountsAfterEvents.{events_stand}
use Rattle.crash_simulation.proofs.laws.events_stand.Goals as goal

pub returns : goal.returns
returns c = events_stand c.fragments_step.ensures c.cores_step.ensures c.local_stores_step.ensures c.fragments_go_on.ensures
