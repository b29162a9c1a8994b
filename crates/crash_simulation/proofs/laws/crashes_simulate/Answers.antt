use Rattle.crash_simulation.proofs.SimulationAtStart.{crash_simulates}
use Rattle.crash_simulation.proofs.laws.crashes_simulate.Goals as goal

pub returns : goal.returns
returns c = crash_simulates
