use Rattle.hart_board.specs.CoreTurns.{RunsIn}
use Rattle.hart_driver.proofs.Public.{is_seat}
use Rattle.part_tests.proofs.boards.meet_hart.Goals as goal

pub meet-requires-clause-seat : goal.meet-requires-clause-seat
meet-requires-clause-seat g c κs within =
    (is_seat g.C.Core.history g.C.Core.space (RunsIn g.C.Core.opening g.C.Core.hart_count g.C.Core.is_local g.C.Core.ahead_by) g.C.Core.hart_count
    c.args.board.now
    c.args.seat.now c.requires).0

pub meet-requires-clause-hart : goal.meet-requires-clause-hart
meet-requires-clause-hart g c κs within =
    (is_seat g.C.Core.history g.C.Core.space (RunsIn g.C.Core.opening g.C.Core.hart_count g.C.Core.is_local g.C.Core.ahead_by) g.C.Core.hart_count
    c.args.board.now
    c.args.seat.now c.requires).1
