use Rattle.log_states.proofs.Machines.{own_steps_move, steps_move, evictions_move, crashes_crash}
use Rattle.log_states.proofs.BoundaryEffectsInLog.{boundaries_stay_in, log_effects_go}
use Rattle.log_states.proofs.laws.events_move.Goals as goal

pub returns-clause-effects : goal.returns-clause-effects
returns-clause-effects c = boundaries_stay_in

pub returns-clause-goes : goal.returns-clause-goes
returns-clause-goes c = log_effects_go

pub returns-clause-own : goal.returns-clause-own
returns-clause-own c = own_steps_move

pub returns-clause-steps : goal.returns-clause-steps
returns-clause-steps c = steps_move

pub returns-clause-evictions : goal.returns-clause-evictions
returns-clause-evictions c = evictions_move

pub returns-clause-crash : goal.returns-clause-crash
returns-clause-crash c = crashes_crash
