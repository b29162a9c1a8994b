use Rattle.crash_simulation.proofs.AccountsAfterEvents.{recovered_are_counted}
use Rattle.crash_simulation.proofs.laws.recovered_are_counted.Goals as goal

pub returns : goal.returns
returns c = recovered_are_counted c.fragments_step.ensures c.cores_step.ensures c.local_stores_step.ensures c.fragments_go_on.ensures
