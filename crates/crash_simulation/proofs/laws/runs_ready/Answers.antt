use Rattle.crash_simulation.proofs.ReadyHarts.{runs_ready}
use Rattle.crash_simulation.proofs.laws.runs_ready.Goals as goal

pub returns : goal.returns
returns c = runs_ready
