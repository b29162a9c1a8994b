use Rattle.hart_runs.proofs.Memory.{persisted_agrees, beside_agrees, forward_agrees, drains_agree, evictions_agree}
use Rattle.hart_runs.proofs.laws.memory_agrees.Goals as goal

pub returns-clause-persisted : goal.returns-clause-persisted
returns-clause-persisted c = persisted_agrees

pub returns-clause-beside : goal.returns-clause-beside
returns-clause-beside c = beside_agrees

pub returns-clause-forward : goal.returns-clause-forward
returns-clause-forward c = forward_agrees

pub returns-clause-drained : goal.returns-clause-drained
returns-clause-drained c = drains_agree

pub returns-clause-evicted : goal.returns-clause-evicted
returns-clause-evicted c = evictions_agree
