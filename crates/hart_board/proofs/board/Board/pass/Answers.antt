use Rattle.std.proofs.Common.{arith}
use Rattle.hart_board.proofs.StepsKeepInv.{passes}
use Rattle.hart_board.specs.BoardRule.{play_of, IsPlayOf}
use Rattle.hart_board.proofs.board.Board.pass.Goals as goal

pub fetch_add-requires : goal.fetch_add-requires
fetch_add-requires g c = let k = c.requires.turn in let sized = c.args.self.now.sized in let terms = c.args.self.now.table.shared.key in (
  c.requires.table,
  omega (arith, sized.0),
  passes (play_of g.C.Core.behaviour g.C.Core.opening g.C.Core.history g.C.Core.hart_count)
      (IsPlayOf g.C.Core.opening g.C.Core.history g.C.Core.hart_count g.C.Core.space g.C.Core.evictable)
      terms c.args.self.now.table.shared.table_id.slots c.args.place.now.id c.args.place.now.me g.C.Core.history k.0 k.1 k.2 k.3 k.4 k.5 k.6 k.7,
)
