use Rattle.std.proofs.Common.{◌∙◌, sym, subst, ap, arith}
use Rattle.hart_board.specs.CoreTurns.{RunsIn}
use Rattle.hart_board.specs.Seats.{IsSeatOf, number}
use Rattle.hart_driver.proofs.Public.{same_numbers}
use Rattle.part_tests.proofs.boards.meet_in_a_turn.Goals as goal

pub returns-clause-seats : goal.returns-clause-seats
returns-clause-seats g c k d inside = let size = c.for_each_mut.auto.s in
    let r = (c.for_each_mut.ensures k d (omega (arith, inside, size))).1 in
    subst (IsSeatOf g.C.Core.history g.C.Core.space (RunsIn g.C.Core.opening g.C.Core.hart_count g.C.Core.is_local g.C.Core.ahead_by) c.args.board.now) r.left
    r.call.0

pub returns-clause-numbers : goal.returns-clause-numbers
returns-clause-numbers g c =
    same_numbers c.args.seats.now c.for_each_mut.new.s (let size = c.for_each_mut.auto.s in omega (arith, size))
    (λ i d inside. let r = (c.for_each_mut.ensures i d inside).1 in ap number (sym r.left) ∙ (r.call.1 ∙ ap number r.argument_is))
