use Rattle.code_runs.proofs.TraceComposition.{straight_from}
use Rattle.code_runs.proofs.laws.straight_is_seen_from.Goals as goal

pub returns : goal.returns
returns c = straight_from
