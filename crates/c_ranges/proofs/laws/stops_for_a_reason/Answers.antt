-- By cases on what the thread has left to do.
use Rattle.c_ranges.proofs.StepEvaluations.{stops}
use Rattle.c_ranges.proofs.laws.stops_for_a_reason.Goals as goal

pub returns : goal.returns
returns c = λ x s t it is found none. stops x s t it is found none
