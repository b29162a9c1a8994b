use Rattle.crash_simulation.proofs.LifeBeginnings.{start_simulates}
use Rattle.crash_simulation.proofs.laws.starts_simulate.Goals as goal

pub returns : goal.returns
returns c = start_simulates
