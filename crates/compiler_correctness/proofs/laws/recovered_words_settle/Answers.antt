use Rattle.compiler_correctness.proofs.RecoveredRuns.{recovered_words_settle}
use Rattle.compiler_correctness.proofs.laws.recovered_words_settle.Goals as goal

pub returns : goal.returns
returns c = recovered_words_settle c.recovered_are_counted.ensures
