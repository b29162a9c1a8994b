use Rattle.recovery_semantics.proofs.InvariantConsequences.{durable_is_kept, between_is_kept, between_is_stable}
use Rattle.recovery_semantics.proofs.laws.durable_is_kept.Goals as goal

pub returns-clause-unwritten : goal.returns-clause-unwritten
returns-clause-unwritten c = durable_is_kept

pub returns-clause-between : goal.returns-clause-between
returns-clause-between c = between_is_kept

pub returns-clause-stable : goal.returns-clause-stable
returns-clause-stable c = between_is_stable
