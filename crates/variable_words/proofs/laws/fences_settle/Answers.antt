use Rattle.variable_words.proofs.MemoryAlongEvents.{cleans_reach, reach_lasts, empty_is_durable, fences_settle}
use Rattle.variable_words.proofs.laws.fences_settle.Goals as goal

pub returns-clause-clean : goal.returns-clause-clean
returns-clause-clean c = cleans_reach

pub returns-clause-reach : goal.returns-clause-reach
returns-clause-reach c = reach_lasts

pub returns-clause-empty : goal.returns-clause-empty
returns-clause-empty c = empty_is_durable

pub returns-clause-settle : goal.returns-clause-settle
returns-clause-settle c = fences_settle
