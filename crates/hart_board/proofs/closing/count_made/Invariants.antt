use Rattle.std.proofs.Common.{◌≡◌, map, take}
use Rattle.std.specs.Vec.{vec_capacity}
use Rattle.hart_board.proofs.closing.count_made.Given as goal

abbrev pub invariant-loop-seat : goal.invariant-loop-seat
invariant-loop-seat g l = record {
  items : l.counts.items ≡ map (λ s. s.made) (take l.seat-index l.seats);
  room : vec_capacity l.counts ≡ vec_capacity l.fn.counts;
}
