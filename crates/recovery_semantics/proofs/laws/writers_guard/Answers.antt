use Rattle.recovery_semantics.proofs.InvariantConsequences.{writers_guard, writers_apart}
use Rattle.recovery_semantics.proofs.laws.writers_guard.Goals as goal

pub returns-clause-guard : goal.returns-clause-guard
returns-clause-guard c = writers_guard

pub returns-clause-apart : goal.returns-clause-apart
returns-clause-apart c = writers_apart
