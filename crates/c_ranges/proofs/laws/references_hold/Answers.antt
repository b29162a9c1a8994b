-- Of a state the locals that are known where a statement is left aren't null, and each reference is null or to its array.
use Rattle.c_ranges.proofs.StepEvaluations.{references_right}
use Rattle.c_ranges.proofs.laws.references_hold.Goals as goal

pub returns : goal.returns
returns c = λ x s t it y rest is n. references_right x s t it is y rest n
