use Rattle.log_states.proofs.StoresOutsideLog.{stores_nothing, stores_to_frame, stores_to_variable, stores_to_other_log}
use Rattle.log_states.proofs.laws.steps_apart.Goals as goal

pub returns-clause-nothing : goal.returns-clause-nothing
returns-clause-nothing c = stores_nothing

pub returns-clause-variable : goal.returns-clause-variable
returns-clause-variable c = stores_to_variable

pub returns-clause-boundary : goal.returns-clause-boundary
returns-clause-boundary c = stores_to_other_log

pub returns-clause-frame : goal.returns-clause-frame
returns-clause-frame c = stores_to_frame
