use Rattle.hart_board.specs.CoreTurns.{RunsIn}
use Rattle.benchmarks.proofs.RunSeats.{is_seat}
use Rattle.benchmarks.proofs.running.take_hart_turns.Goals as goal

pub take_turns-requires-clause-seat : goal.take_turns-requires-clause-seat
take_turns-requires-clause-seat g c κs within =
    (is_seat g.C.Core.history g.C.Core.space (RunsIn g.C.Core.opening g.C.Core.hart_count g.C.Core.is_local g.C.Core.ahead_by) g.C.Core.hart_count
    c.args.board.now
    c.args.seat.now c.requires).0

pub take_turns-requires-clause-hart : goal.take_turns-requires-clause-hart
take_turns-requires-clause-hart g c κs within =
    (is_seat g.C.Core.history g.C.Core.space (RunsIn g.C.Core.opening g.C.Core.hart_count g.C.Core.is_local g.C.Core.ahead_by) g.C.Core.hart_count
    c.args.board.now
    c.args.seat.now c.requires).1
