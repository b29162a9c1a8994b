use Rattle.crash_simulation.proofs.StepSimulation.{own_steps_simulate}
use Rattle.crash_simulation.proofs.laws.own_steps_simulate.Goals as goal

pub returns : goal.returns
returns c = own_steps_simulate
