use Rattle.crash_simulation.proofs.LivesBegin.{lives_simulate}
use Rattle.crash_simulation.proofs.laws.lives_simulate.Goals as goal

pub returns : goal.returns
returns c = lives_simulate
