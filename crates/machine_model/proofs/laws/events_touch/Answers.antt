use Rattle.machine_model.proofs.Frames.{steps_touch, evictions_touch, log_stays}
use Rattle.machine_model.proofs.laws.events_touch.Goals as goal

pub returns-clause-steps : goal.returns-clause-steps
returns-clause-steps c = steps_touch

pub returns-clause-evictions : goal.returns-clause-evictions
returns-clause-evictions c = evictions_touch

pub returns-clause-log : goal.returns-clause-log
returns-clause-log c = log_stays
