use Rattle.hart_runs.proofs.QueuePersistence.{forward_reaches, drains_reach, others_reach, cleans_reach_now, fences_settle}
use Rattle.hart_runs.proofs.laws.queues_reach.Goals as goal

pub returns-clause-forward : goal.returns-clause-forward
returns-clause-forward c = forward_reaches

pub returns-clause-drained : goal.returns-clause-drained
returns-clause-drained c = drains_reach

pub returns-clause-others : goal.returns-clause-others
returns-clause-others c = others_reach

pub returns-clause-cleans : goal.returns-clause-cleans
returns-clause-cleans c = cleans_reach_now

pub returns-clause-fences : goal.returns-clause-fences
returns-clause-fences c = fences_settle
