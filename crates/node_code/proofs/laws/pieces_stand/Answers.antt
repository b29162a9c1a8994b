use Rattle.node_code.proofs.PiecePlaces.{joined_stand}
use Rattle.node_code.proofs.laws.pieces_stand.Goals as goal

pub returns : goal.returns
returns c = joined_stand
