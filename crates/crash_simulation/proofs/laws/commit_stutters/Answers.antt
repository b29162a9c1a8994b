use Rattle.crash_simulation.proofs.CommitSimulation.{commit_stutters}
use Rattle.crash_simulation.proofs.laws.commit_stutters.Goals as goal

pub returns : goal.returns
returns c = commit_stutters
