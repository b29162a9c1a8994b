use Rattle.crash_simulation.proofs.PastStoreSteps.{local_stores_step}
use Rattle.crash_simulation.proofs.laws.local_stores_step.Goals as goal

pub returns : goal.returns
returns c = local_stores_step c.fragments_go_on.ensures c.marks_pass.ensures
