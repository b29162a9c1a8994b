use Rattle.code_runs.proofs.TraceComposition.{along}
use Rattle.code_runs.proofs.laws.runs_compose.Goals as goal

pub returns : goal.returns
returns c = along
