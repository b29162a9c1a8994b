use Rattle.source_machine.proofs.NoLockTransfer.{step_added, steps_dropped}
use Rattle.source_machine.proofs.laws.no_mutex_changes_hands.Goals as goal

pub returns-clause-added : goal.returns-clause-added
returns-clause-added c = step_added

pub returns-clause-dropped : goal.returns-clause-dropped
returns-clause-dropped c = steps_dropped
