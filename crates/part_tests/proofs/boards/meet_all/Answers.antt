use Rattle.std.proofs.Common.{◌∙◌, sym, subst, ap, arith, length}
use Rattle.std.specs.Prelude.{All}
use Rattle.hart_board.specs.CoreTurns.{RunsIn}
use Rattle.hart_board.specs.Seats.{IsSeatOf, numbers_of}
use Rattle.hart_driver.specs.links.Parts.{IsHartSeat}
use Rattle.hart_driver.proofs.Public.{all_below, can_run, refilled}
use Rattle.part_tests.proofs.boards.meet_all.Goals as goal

pub meet_in_a_turn-requires-clause-seats : goal.meet_in_a_turn-requires-clause-seats
meet_in_a_turn-requires-clause-seats g c κs within = let board = c.args.board.now in let value = c.as_mut_slice.ensures.value in
    let runs = RunsIn g.C.Core.opening g.C.Core.hart_count g.C.Core.is_local g.C.Core.ahead_by in
    let count = c.requires.harts in
    subst (All (IsHartSeat g.C.Core.history g.C.Core.space runs g.C.Core.hart_count board)) (sym value)
    (can_run g.C.Core.history g.C.Core.space runs g.C.Core.hart_count board 2 c.args.seats.items (omega (arith, count)) c.requires.seats
    (all_below 0 2 c.args.seats.items c.requires.numbers))

pub returns-clause-seats : goal.returns-clause-seats
returns-clause-seats g c = let size = c.meet_in_a_turn.auto.seats in let value = c.as_mut_slice.ensures.value in
    let same = refilled c.args.seats.len c.args.seats.items c.meet_in_a_turn.new.seats c.args.seats.ok.0 (omega (arith, size, ap length value)) in
    subst (All (IsSeatOf g.C.Core.history g.C.Core.space (RunsIn g.C.Core.opening g.C.Core.hart_count g.C.Core.is_local g.C.Core.ahead_by) c.args.board.now))
    (sym same)
    c.meet_in_a_turn.ensures.seats

pub returns-clause-numbers : goal.returns-clause-numbers
returns-clause-numbers g c = let size = c.meet_in_a_turn.auto.seats in let value = c.as_mut_slice.ensures.value in
    let same = refilled c.args.seats.len c.args.seats.items c.meet_in_a_turn.new.seats c.args.seats.ok.0 (omega (arith, size, ap length value)) in
    ap numbers_of same ∙ (c.meet_in_a_turn.ensures.numbers ∙ (ap numbers_of value ∙ c.requires.numbers))
