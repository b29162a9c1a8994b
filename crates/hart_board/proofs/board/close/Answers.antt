use Rattle.std.proofs.Common.{sym, ◌∙◌, subst}
use mathlib.Core.Option.{some-injective}
use Rattle.std.specs.Slots.{slots_items}
use Rattle.atomic_table.specs.Table.{Final, Seen}
use Rattle.hart_board.specs.declared.views.View.{View}
use Rattle.hart_board.specs.BoardRule.{play_of, IsPlayOf, BoardInv, Closed}
use Rattle.hart_board.proofs.JoinsKeepInv.{closes}
use Rattle.hart_board.proofs.board.close.Goals as goal

pub returns : goal.returns
returns g c k is out all = let terms = c.args.table.shared.key in
    let play = play_of g.C.Core.behaviour g.C.Core.opening g.C.Core.history g.C.Core.hart_count in
    let is_play = IsPlayOf g.C.Core.opening g.C.Core.history g.C.Core.hart_count g.C.Core.space g.C.Core.evictable in
    let f = c.close_with-closed.ensures.values.2 in
    let words = slots_items c.close_with-closed.result.words in let slots = slots_items c.close_with-closed.result.slots in
    let x = closes play is_play terms c.args.place.id k words slots out all
    (subst (λ (v : View g.row.C.Denot). Final (Seen (BoardInv (play terms) (is_play terms) terms) c.args.place.id v) words slots) is f) in
    subst (Closed play is_play k) (some-injective x.0 c.take-core.result (sym x.1 ∙ c.take-core.ensures.value)) x.2
