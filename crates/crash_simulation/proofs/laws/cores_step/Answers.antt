use Rattle.crash_simulation.proofs.NodeCodeSteps.{cores_step}
use Rattle.crash_simulation.proofs.laws.cores_step.Goals as goal

pub returns : goal.returns
returns c = cores_step c.marks_pass.ensures
