use Rattle.std.proofs.Common.{◌≡◌, ◌++◌, List, length}
use Rattle.hart_board.specs.declared.views.Known.{Known}
use Rattle.hart_board.specs.declared.seat.Seat.{Seat}
use Rattle.hart_board.specs.links.Gathered.{Gathers}
use Rattle.hart_board.proofs.closing.gather.Given as goal

abbrev pub invariant-loop-seat : goal.invariant-loop-seat
invariant-loop-seat g l = record {
  table : l.place.table_id ≡ l.table.shared.table_id;
  rest : List (Seat g.row.C.Denot g.row.L.Denot);
  all : l.fn.seats.items ≡ l.seats.items ++ rest;
  known : Known g.row.C.Denot;
  gathers : Gathers l.table.shared.key rest l.place known;
}

abbrev pub decreases-loop-seat : goal.decreases-loop-seat
decreases-loop-seat g l = length l.seats.items
