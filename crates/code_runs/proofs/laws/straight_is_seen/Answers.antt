use Rattle.code_runs.proofs.TraceComposition.{straight_walk}
use Rattle.code_runs.proofs.laws.straight_is_seen.Goals as goal

pub returns : goal.returns
returns c = straight_walk
