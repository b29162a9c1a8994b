use Rattle.crash_simulation.proofs.AccountsAfterEvents.{runs_simulate}
use Rattle.crash_simulation.proofs.laws.runs_simulate.Goals as goal

pub returns : goal.returns
returns c = runs_simulate c.fragments_step.ensures c.cores_step.ensures c.local_stores_step.ensures
