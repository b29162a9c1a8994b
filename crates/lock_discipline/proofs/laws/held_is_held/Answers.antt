use Rattle.lock_discipline.proofs.DisciplinedContinuations.{held_is_held}
use Rattle.lock_discipline.proofs.laws.held_is_held.Goals as goal

pub returns : goal.returns
returns c = held_is_held
