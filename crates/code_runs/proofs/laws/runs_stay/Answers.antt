use Rattle.code_runs.proofs.TraceComposition.{walk_answers}
use Rattle.code_runs.proofs.laws.runs_stay.Goals as goal

pub returns : goal.returns
returns c = walk_answers
