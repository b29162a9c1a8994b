use Rattle.code_runs.proofs.TraceComposition.{silent_walk}
use Rattle.code_runs.proofs.laws.computing_is_unseen.Goals as goal

pub returns : goal.returns
returns c = λ s n m to unmarked h. (silent_walk s n m to unmarked h).1
