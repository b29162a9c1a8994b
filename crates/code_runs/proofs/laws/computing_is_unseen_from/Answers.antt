use Rattle.code_runs.proofs.TraceComposition.{silent_from}
use Rattle.code_runs.proofs.laws.computing_is_unseen_from.Goals as goal

pub returns : goal.returns
returns c = silent_from
