use Rattle.std.proofs.Common.{arith, ap, sym, subst}
use Rattle.atomic_table.specs.Table.{Splits}
use Rattle.hart_board.specs.declared.views.View.{View}
use Rattle.hart_board.specs.BoardRule.{play_of, IsPlayOf, BoardInv, without_first, first_alone}
use Rattle.hart_board.proofs.JoinsKeepInv.{splits}
use Rattle.hart_board.proofs.board.Board.deal_first.Goals as goal

pub split_seat-requires : goal.split_seat-requires
split_seat-requires g c = let t = c.requires.me in let sized = c.args.self.now.sized in let terms = c.args.self.now.table.shared.key in
    let play = play_of g.C.Core.behaviour g.C.Core.opening g.C.Core.history g.C.Core.hart_count terms in
    let is_play = IsPlayOf g.C.Core.opening g.C.Core.history g.C.Core.hart_count g.C.Core.space g.C.Core.evictable terms in (
      c.requires.table,
      omega (arith, sized.0),
      subst (λ (z : View g.row.C.Denot). Splits (BoardInv play is_play terms) c.args.place.now.id z (without_first z) (first_alone z)) (sym (ap (λ m. m.0) t.2))
          (splits play is_play terms c.args.place.now.id t.0 t.1),
    )
