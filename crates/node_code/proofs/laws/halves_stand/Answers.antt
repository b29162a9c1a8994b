use Rattle.node_code.proofs.TwoPartPieces.{halves_stand}
use Rattle.node_code.proofs.laws.halves_stand.Goals as goal

pub returns : goal.returns
returns c = halves_stand
