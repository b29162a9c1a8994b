use Rattle.recovered_threads.proofs.GatheredLocks.{points_settle}
use Rattle.recovered_threads.proofs.laws.points_settle.Goals as goal

pub returns : goal.returns
returns c = points_settle
