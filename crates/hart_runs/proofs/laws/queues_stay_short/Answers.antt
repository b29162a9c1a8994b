use Rattle.hart_runs.proofs.Queues.{queues_stay_short, starts_are_short, crashes_are_short}
use Rattle.hart_runs.proofs.laws.queues_stay_short.Goals as goal

pub returns-clause-events : goal.returns-clause-events
returns-clause-events c = queues_stay_short

pub returns-clause-starts : goal.returns-clause-starts
returns-clause-starts c = starts_are_short

pub returns-clause-crashes : goal.returns-clause-crashes
returns-clause-crashes c = crashes_are_short
