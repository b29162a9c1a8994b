use Rattle.node_code.proofs.TwoPartPieces.{pieces_close}
use Rattle.node_code.proofs.laws.pieces_close.Goals as goal

pub returns : goal.returns
returns c = pieces_close
