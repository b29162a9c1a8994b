use Rattle.std.proofs.Common.{arith, ap, sym, subst, ◌≡◌}
use Rattle.atomic_table.specs.Table.{Joins}
use Rattle.hart_board.specs.declared.views.View.{View}
use Rattle.hart_board.specs.declared.views.View.TheVariants.{Spent, Seated}
use Rattle.hart_board.specs.BoardRule.{play_of, IsPlayOf, BoardInv, met_view}
use Rattle.hart_board.proofs.JoinsKeepInv.{meets}
use Rattle.hart_board.proofs.board.meet.Goals as goal

pub join_seat-requires : goal.join_seat-requires
join_seat-requires g c = let t = c.requires.seats in let words = c.requires.words in let terms = c.args.table.now.shared.key in
    let play = play_of g.C.Core.behaviour g.C.Core.opening g.C.Core.history g.C.Core.hart_count terms in
    let is_play = IsPlayOf g.C.Core.opening g.C.Core.history g.C.Core.hart_count g.C.Core.space g.C.Core.evictable terms in
    let one : c.args.place.now.me.0 ≡ Seated t.0 = t.2 in
    let two : c.args.other.me.0 ≡ Seated t.1 = ap (λ m. m.0) t.3 in (
      c.requires.table.0,
      c.requires.table.1,
      ap (λ m. m.1) t.3,
      omega (arith, words),
      subst (λ (z : View g.row.C.Denot × View g.row.C.Denot).
          Joins (BoardInv play is_play terms) c.args.place.now.id z.0 c.args.other.id z.1 (met_view z.0 z.1) Spent) (λ i. (sym one i, sym two i))
          (meets play is_play terms c.args.place.now.id c.args.other.id t.0 t.1 t.4 t.5),
    )
