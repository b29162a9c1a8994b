use Rattle.std.proofs.Common.{arith}
use Rattle.hart_board.proofs.StepsKeepInv.{draws}
use Rattle.hart_board.specs.BoardRule.{play_of, IsPlayOf}
use Rattle.hart_board.proofs.board.Board.draw.Goals as goal

pub fetch_add-requires : goal.fetch_add-requires
fetch_add-requires g c = let k = c.requires.free in let sized = c.args.self.now.sized in let terms = c.args.self.now.table.shared.key in (
  c.requires.table,
  omega (arith, sized.0),
  draws (play_of g.C.Core.behaviour g.C.Core.opening g.C.Core.history g.C.Core.hart_count terms)
      (IsPlayOf g.C.Core.opening g.C.Core.history g.C.Core.hart_count g.C.Core.space g.C.Core.evictable terms)
      terms c.args.self.now.table.shared.table_id.slots c.args.place.now.id c.args.place.now.me k.0 k.1 k.2 k.3,
)
