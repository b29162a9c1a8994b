use Rattle.c_reader.proofs.UniqueReadings.{one_tree, one_refusal, not_both}
use Rattle.c_reader.proofs.laws.one_reading.Goals as goal

pub returns-clause-tree : goal.returns-clause-tree
returns-clause-tree c = one_tree

pub returns-clause-refusal : goal.returns-clause-refusal
returns-clause-refusal c = one_refusal

pub returns-clause-not_both : goal.returns-clause-not_both
returns-clause-not_both c = not_both
