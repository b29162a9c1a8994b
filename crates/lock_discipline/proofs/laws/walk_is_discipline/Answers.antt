use Rattle.lock_discipline.proofs.WalkLaw.{walk-is_discipline}
use Rattle.lock_discipline.proofs.laws.walk_is_discipline.Goals as goal

pub returns : goal.returns
returns c = walk-is_discipline
