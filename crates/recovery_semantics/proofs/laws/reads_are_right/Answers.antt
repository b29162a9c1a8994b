use Rattle.recovery_semantics.proofs.InvariantConsequences.{reads_are_right}
use Rattle.recovery_semantics.proofs.laws.reads_are_right.Goals as goal

pub returns : goal.returns
returns c = reads_are_right
