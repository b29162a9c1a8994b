use Rattle.std.proofs.Common.{◌∙◌, ap, sym, arith, length}
use Rattle.hart_board.specs.declared.seat.Seat.{Seat}
use Rattle.hart_board.specs.BoardRule.{numbers_from}
use Rattle.hart_board.specs.CoreTurns.{RunsIn}
use Rattle.hart_board.specs.Seats.{IsSeatOf, number}
use Rattle.hart_board.specs.Journals.{made_by}
use Rattle.hart_board.proofs.Public.{all_dealt}
use Rattle.std.proofs.lemmas.List.{length-map}
use Rattle.part_tests.proofs.TwoSeats.{all_two, same_two}
use Rattle.part_tests.proofs.boards.end.Goals as goal

pub into_core-requires-clause-seats : goal.into_core-requires-clause-seats
into_core-requires-clause-seats g c κs within =
    all_two (λ (s : Seat g.row.C.Denot g.row.C-Local.Denot).
    IsSeatOf g.C.Core.history g.C.Core.space (RunsIn g.C.Core.opening g.C.Core.hart_count g.C.Core.is_local g.C.Core.ahead_by) c.args.board s)
    c.push_reserved-2.new.self.items c.push_reserved.new.self.items c.args.seats.items c.args.first c.args.second c.push_reserved-2.ensures.items
    c.push_reserved.ensures.items
    (let n = c.requires.room.0 in omega (arith, n)) c.requires.first.0 c.requires.second.0

pub into_core-requires-clause-all : goal.into_core-requires-clause-all
into_core-requires-clause-all g c κs within =
    all_dealt c.args.board c.push_reserved-2.new.self.items
    (same_two (λ (s : Seat g.row.C.Denot g.row.C-Local.Denot). Unit {0}) c.push_reserved-2.new.self.items c.push_reserved.new.self.items c.args.seats.items
    c.args.first c.args.second c.push_reserved-2.ensures.items c.push_reserved.ensures.items
    (let n = c.requires.room.0 in omega (arith, n)) c.requires.first.1 c.requires.second.1
    ∙ ap (numbers_from 0) (sym c.requires.two))

pub returns : goal.returns
returns g c = let w = c.into_core.ensures in let a = ap length w.counts_are in
    let b = length-map c.push_reserved-2.new.self.items (λ (s : Seat g.row.C.Denot g.row.C-Local.Denot). made_by (number s) w.journal) in
    let d = c.push_reserved-2.ensures.len in let e = c.push_reserved.ensures.len in let n = c.requires.room.0 in omega (arith, a, b, d, e, n)
