use Rattle.recovered_threads.proofs.OrderlyStates.{starts_orderly, steps_orderly, starts_told}
use Rattle.recovered_threads.proofs.laws.states_are_orderly.Goals as goal

pub returns-clause-start : goal.returns-clause-start
returns-clause-start c = starts_orderly

pub returns-clause-step : goal.returns-clause-step
returns-clause-step c = steps_orderly

pub returns-clause-told : goal.returns-clause-told
returns-clause-told c = starts_told
