use Rattle.std.proofs.Common.{◌∙◌, sym, subst, ap, arith, length}
use Rattle.std.specs.Prelude.{All}
use Rattle.hart_board.specs.CoreTurns.{IsPlayed, RunsIn}
use Rattle.hart_board.specs.Seats.{IsSeatOf, numbers_of, opening_core, rules_of, seats_of}
use Rattle.hart_board.proofs.Public.{all_dealt}
use Rattle.benchmarks.specs.HartSeats.{IsHartSeat}
use Rattle.benchmarks.proofs.RunSeats.{has_run, hart_seats, refilled}
use Rattle.benchmarks.proofs.running.run.Goals as goal

pub run_harts-requires-clause-seats : goal.run_harts-requires-clause-seats
run_harts-requires-clause-seats g c κs within = let board = c.args.board in let value = c.as_mut_slice.ensures.value in
    let runs = RunsIn g.C.Core.opening g.C.Core.hart_count g.C.Core.is_local g.C.Core.ahead_by in
    let count = c.requires.harts in
    subst (All (IsHartSeat g.C.Core.history g.C.Core.space runs g.C.Core.hart_count board)) (sym value)
    (hart_seats g.C.Core.history g.C.Core.space runs g.C.Core.hart_count board 0 (seats_of board) c.args.seats.items (omega (arith, count))
    c.requires.numbers c.requires.seats)

pub into_core-requires-clause-seats : goal.into_core-requires-clause-seats
into_core-requires-clause-seats g c κs within = let size = c.run_harts.auto.seats in let value = c.as_mut_slice.ensures.value in
    let same = refilled c.args.seats.len c.args.seats.items c.run_harts.new.seats c.args.seats.ok.0 (omega (arith, size, ap length value)) in
    subst (All (IsSeatOf g.C.Core.history g.C.Core.space (RunsIn g.C.Core.opening g.C.Core.hart_count g.C.Core.is_local g.C.Core.ahead_by) c.args.board))
    (sym same)
    c.run_harts.ensures.seats

pub into_core-requires-clause-all : goal.into_core-requires-clause-all
into_core-requires-clause-all g c κs within = let size = c.run_harts.auto.seats in let value = c.as_mut_slice.ensures.value in
    let same = refilled c.args.seats.len c.args.seats.items c.run_harts.new.seats c.args.seats.ok.0 (omega (arith, size, ap length value)) in
    all_dealt c.args.board _ (ap numbers_of same ∙ (c.run_harts.ensures.numbers ∙ (ap numbers_of value ∙ c.requires.numbers)))

pub returns : goal.returns
returns g c = let size = c.run_harts.auto.seats in let value = c.as_mut_slice.ensures.value in let board = c.args.board in
    let same = refilled c.args.seats.len c.args.seats.items c.run_harts.new.seats c.args.seats.ok.0 (omega (arith, size, ap length value)) in
    let numbers = ap numbers_of same ∙ (c.run_harts.ensures.numbers ∙ (ap numbers_of value ∙ c.requires.numbers)) in
    has_run (rules_of g.C.Core.behaviour g.C.Core.opening g.C.Core.history g.C.Core.hart_count board)
    (IsPlayed g.C.Core.opening g.C.Core.history g.C.Core.hart_count g.C.Core.space g.C.Core.evictable (opening_core board)) (seats_of board) _
    c.into_core.result.0 c.into_core.result.1.items numbers (all_dealt board _ numbers).once c.into_core.ensures
