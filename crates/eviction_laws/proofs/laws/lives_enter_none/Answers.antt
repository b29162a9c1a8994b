use Rattle.eviction_laws.proofs.SameSteps.{lives_enter_none, others_enter_none, starts_enter_none}
use Rattle.eviction_laws.proofs.laws.lives_enter_none.Goals as goal

pub returns-clause-first : goal.returns-clause-first
returns-clause-first c = starts_enter_none

pub returns-clause-another : goal.returns-clause-another
returns-clause-another c = others_enter_none

pub returns-clause-events : goal.returns-clause-events
returns-clause-events c = lives_enter_none
