use Rattle.variable_words.proofs.Variables.{live_are_memory, durable_are_memory}
use Rattle.variable_words.proofs.laws.variables_are_memory.Goals as goal

pub returns-clause-live : goal.returns-clause-live
returns-clause-live c = live_are_memory

pub returns-clause-durable : goal.returns-clause-durable
returns-clause-durable c = durable_are_memory
