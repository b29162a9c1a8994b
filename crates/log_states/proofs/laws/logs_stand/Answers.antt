use Rattle.log_states.proofs.LogInvariantHolds.{starts_standing, begins_standing, own_steps_keep, steps_keep, evictions_keep, crashes_standing}
use Rattle.log_states.proofs.laws.logs_stand.Goals as goal

pub returns-clause-start : goal.returns-clause-start
returns-clause-start c = starts_standing

pub returns-clause-begins : goal.returns-clause-begins
returns-clause-begins c = begins_standing

pub returns-clause-own : goal.returns-clause-own
returns-clause-own c = own_steps_keep

pub returns-clause-steps : goal.returns-clause-steps
returns-clause-steps c = steps_keep

pub returns-clause-evictions : goal.returns-clause-evictions
returns-clause-evictions c = evictions_keep

pub returns-clause-crash : goal.returns-clause-crash
returns-clause-crash c = crashes_standing
