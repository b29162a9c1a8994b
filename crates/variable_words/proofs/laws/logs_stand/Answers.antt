use Rattle.variable_words.proofs.LogWords.{logs_reach, logs_hold_none, logs_apart, lines_apart}
use Rattle.variable_words.proofs.laws.logs_stand.Goals as goal

pub returns-clause-access : goal.returns-clause-access
returns-clause-access c = logs_reach

pub returns-clause-none : goal.returns-clause-none
returns-clause-none c = logs_hold_none

pub returns-clause-words : goal.returns-clause-words
returns-clause-words c = logs_apart

pub returns-clause-lines : goal.returns-clause-lines
returns-clause-lines c = lines_apart
