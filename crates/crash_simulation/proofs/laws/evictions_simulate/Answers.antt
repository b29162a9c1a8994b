use Rattle.crash_simulation.proofs.StepSimulation.{evictions_simulate}
use Rattle.crash_simulation.proofs.laws.evictions_simulate.Goals as goal

pub returns : goal.returns
returns c = evictions_simulate
