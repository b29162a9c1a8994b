use Rattle.recovered_threads.proofs.CountedWords.{assigned_is_apart, words_are_listed, words_exist}
use Rattle.recovered_threads.proofs.laws.words_are_counted.Goals as goal

pub returns-clause-listed : goal.returns-clause-listed
returns-clause-listed c = words_are_listed

pub returns-clause-exist : goal.returns-clause-exist
returns-clause-exist c = words_exist

pub returns-clause-apart : goal.returns-clause-apart
returns-clause-apart c = assigned_is_apart
