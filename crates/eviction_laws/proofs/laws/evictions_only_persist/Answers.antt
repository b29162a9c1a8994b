use Rattle.eviction_laws.proofs.SameSteps.{evictions_only_persist}
use Rattle.eviction_laws.proofs.laws.evictions_only_persist.Goals as goal

pub returns : goal.returns
returns c = evictions_only_persist
