use Rattle.std.proofs.Common.{rules, ap, sym, ◌∙◌, subst, ℕ, List, ◌∷◌, [], ◌++◌}
use Rattle.atomic_table.specs.Table.{opening}
use Rattle.hart_board.proofs.FirstState.{opens, played_self}
use Rattle.hart_board.specs.declared.views.Terms.{Terms}
use Rattle.hart_board.specs.declared.views.View.TheVariants.{Seated}
use Rattle.hart_board.specs.BoardRule.{play_of, IsPlayOf, newcomer, BoardInv}
use Rattle.hart_board.proofs.board.Board.open.Goals as goal

pub new-requires : goal.new-requires
new-requires g c =
    let terms : Terms g.row.C.Denot = record { opening = c.of.result; seats = c.args.seats; turns = c.args.turns; ceiling = c.args.ceiling } in
    let items = c.push_reserved.ensures.items ∙ ap (λ (xs : List g.row.C.Denot). xs ++ c.args.core ∷ []) ((c.in_ok-slots.ensures).items) in
    subst (λ (z : List g.row.C.Denot × ℕ). BoardInv (play_of g.C.Core.behaviour g.C.Core.opening g.C.Core.history g.C.Core.hart_count terms)
    (IsPlayOf g.C.Core.opening g.C.Core.history g.C.Core.hart_count g.C.Core.space g.C.Core.evictable terms) terms
    (opening (0 ∷ z.1 ∷ []) z.0 (Seated (newcomer terms)))) (λ i. (sym items i, sym c.from.ensures i))
    (opens _ _ terms c.args.core c.ranges.seats.fits (played_self _ _ _ _ _ c.of.result.value c.args.core (search rules)))
