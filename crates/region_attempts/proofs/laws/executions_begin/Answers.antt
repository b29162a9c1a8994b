use Rattle.region_attempts.proofs.Origins.{free_at_boundaries, lives_are_origins, settled_may_begin, starts_are_origins}
use Rattle.region_attempts.proofs.laws.executions_begin.Goals as goal

pub returns-clause-start : goal.returns-clause-start
returns-clause-start c = starts_are_origins

pub returns-clause-again : goal.returns-clause-again
returns-clause-again c = lives_are_origins

pub returns-clause-memory : goal.returns-clause-memory
returns-clause-memory c = settled_may_begin

pub returns-clause-boundaries : goal.returns-clause-boundaries
returns-clause-boundaries c = free_at_boundaries
