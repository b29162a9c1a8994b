use Rattle.crash_simulation.proofs.RecordsAfterCrash.{settled_is_kept}
use Rattle.crash_simulation.proofs.laws.settled_is_kept.Goals as goal

pub returns : goal.returns
returns c = settled_is_kept
