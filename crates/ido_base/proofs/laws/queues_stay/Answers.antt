use Rattle.ido_base.proofs.Growth.{entries_stay, reach_stays, cleans_reach}
use Rattle.ido_base.proofs.laws.queues_stay.Goals as goal

pub returns-clause-entries : goal.returns-clause-entries
returns-clause-entries c = entries_stay

pub returns-clause-reach : goal.returns-clause-reach
returns-clause-reach c = reach_stays

pub returns-clause-cleans : goal.returns-clause-cleans
returns-clause-cleans c = cleans_reach
