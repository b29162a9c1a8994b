-- By what stops a thread.
use Rattle.source_machine.proofs.WellFormedSteps.{ended_over, waits_held}
use Rattle.source_machine.proofs.formed.answers_say_why.Goals as goal

pub returns-clause-ended : goal.returns-clause-ended
returns-clause-ended c = ended_over

pub returns-clause-waits : goal.returns-clause-waits
returns-clause-waits c = λ x s t mutex it is found h. waits_held x s t it is found mutex h
