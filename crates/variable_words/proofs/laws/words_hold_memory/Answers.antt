use Rattle.variable_words.proofs.InitialMemory.{starts_hold, crashes_hold, images_hold}
use Rattle.variable_words.proofs.laws.words_hold_memory.Goals as goal

pub returns-clause-start : goal.returns-clause-start
returns-clause-start c = starts_hold

pub returns-clause-crash : goal.returns-clause-crash
returns-clause-crash c = crashes_hold

pub returns-clause-image : goal.returns-clause-image
returns-clause-image c = images_hold
