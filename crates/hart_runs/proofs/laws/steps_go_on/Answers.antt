use Rattle.hart_runs.proofs.RunStepEffects.{steps_go_on}
use Rattle.hart_runs.proofs.laws.steps_go_on.Goals as goal

pub returns : goal.returns
returns c = steps_go_on
