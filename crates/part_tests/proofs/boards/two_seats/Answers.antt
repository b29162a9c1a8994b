use Rattle.hart_board.specs.declared.seat.Seat.{Seat}
use Rattle.hart_board.specs.CoreTurns.{RunsIn}
use Rattle.hart_board.specs.Seats.{IsSeatOf}
use Rattle.part_tests.proofs.TwoSeats.{two_of}
use Rattle.part_tests.proofs.boards.two_seats.Goals as goal

pub returns : goal.returns
returns g c =
    let x = two_of
    (λ (s : Seat g.row.C.Denot g.row.C-Local.Denot).
    IsSeatOf g.C.Core.history g.C.Core.space (RunsIn g.C.Core.opening g.C.Core.hart_count g.C.Core.is_local g.C.Core.ahead_by) c.args.board.now s)
    c.args.seats.items c.pop.new.self.items c.pop-2.new.self.items c.in-Some-pop.first c.in-Some.second c.in-Some.ensures.items
    c.in-Some-pop.ensures.items c.requires.numbers c.requires.seats in
    record { first = (x.0.0, x.0.1); second = (x.1.0, x.1.1) }
