use Rattle.recovery_semantics.proofs.VariableMemory.{memory_loaded, memory_stored, memory_stays, memory_persisted, memory_crashed}
use Rattle.recovery_semantics.proofs.laws.memory_in_words.Goals as goal

pub returns-clause-loaded : goal.returns-clause-loaded
returns-clause-loaded c = memory_loaded

pub returns-clause-stored : goal.returns-clause-stored
returns-clause-stored c = memory_stored

pub returns-clause-stays : goal.returns-clause-stays
returns-clause-stays c = memory_stays

pub returns-clause-persisted : goal.returns-clause-persisted
returns-clause-persisted c = memory_persisted

pub returns-clause-crashed : goal.returns-clause-crashed
returns-clause-crashed c = memory_crashed
