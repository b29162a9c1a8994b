use Rattle.crash_simulation.proofs.SimulationAtStart.{recovered_words_simulate}
use Rattle.crash_simulation.proofs.laws.recovered_words_simulate.Goals as goal

pub returns : goal.returns
returns c = recovered_words_simulate
