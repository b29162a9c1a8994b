use Rattle.crash_simulation.proofs.CallSteps.{calls_step}
use Rattle.crash_simulation.proofs.laws.calls_step.Goals as goal

pub returns : goal.returns
returns c = calls_step
