use Rattle.crash_simulation.proofs.AccountsAfterEvents.{machines_resume}
use Rattle.crash_simulation.proofs.laws.machines_resume.Goals as goal

pub returns : goal.returns
returns c = machines_resume c.fragments_step.ensures c.cores_step.ensures c.local_stores_step.ensures c.fragments_go_on.ensures
