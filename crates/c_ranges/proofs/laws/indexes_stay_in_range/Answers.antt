-- By cases on the statement, and induction on its expressions.
use Rattle.c_ranges.proofs.StepEvaluations.{values_foreseen, indexes_in_range}
use Rattle.c_ranges.proofs.laws.indexes_stay_in_range.Goals as goal

pub returns-clause-values : goal.returns-clause-values
returns-clause-values c = λ x s t it y rest is n. values_foreseen x s t it is y rest n

pub returns-clause-indexes : goal.returns-clause-indexes
returns-clause-indexes c = λ x s t it y rest is n. indexes_in_range x s t it is y rest n
