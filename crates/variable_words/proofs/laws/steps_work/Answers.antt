use Rattle.variable_words.proofs.StepEffects.{steps_work}
use Rattle.variable_words.proofs.MemoryAlongEvents.{stores_store, events_raise}
use Rattle.variable_words.proofs.laws.steps_work.Goals as goal

pub returns-clause-steps : goal.returns-clause-steps
returns-clause-steps c = steps_work

pub returns-clause-stores : goal.returns-clause-stores
returns-clause-stores c = stores_store

pub returns-clause-raise : goal.returns-clause-raise
returns-clause-raise c = events_raise
