use Rattle.crash_simulation.proofs.FragmentSteps.{fragments_step}
use Rattle.crash_simulation.proofs.laws.fragments_step.Goals as goal

pub returns : goal.returns
returns c = fragments_step c.fragments_go_on.ensures
