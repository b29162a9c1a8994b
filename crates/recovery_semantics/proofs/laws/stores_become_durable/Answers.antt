use Rattle.recovery_semantics.proofs.InvariantConsequences.{stored_is_since, since_stays, since_is_persisted, since_settles}
use Rattle.recovery_semantics.proofs.laws.stores_become_durable.Goals as goal

pub returns-clause-stored : goal.returns-clause-stored
returns-clause-stored c = stored_is_since

pub returns-clause-others : goal.returns-clause-others
returns-clause-others c = since_stays

pub returns-clause-persisted : goal.returns-clause-persisted
returns-clause-persisted c = since_is_persisted

pub returns-clause-settled : goal.returns-clause-settled
returns-clause-settled c = since_settles
