use Rattle.source_machine.proofs.AppendedLives.{after_life, runs_life, ended_life, between_is_each}
use Rattle.source_machine.proofs.laws.lives_append.Goals as goal

pub returns-clause-after : goal.returns-clause-after
returns-clause-after c = after_life

pub returns-clause-runs : goal.returns-clause-runs
returns-clause-runs c = runs_life

pub returns-clause-ended : goal.returns-clause-ended
returns-clause-ended c = ended_life

pub returns-clause-between : goal.returns-clause-between
returns-clause-between c = between_is_each
