use Rattle.std.proofs.Common.{◌≡◌, ◌<◌, ℕ, length, get_or, None}
use Rattle.std.specs.Vec.{vec_capacity}
use Rattle.hart_board.specs.CoreTurns.{RunsIn}
use Rattle.hart_board.proofs.opening.all_ahead.Given as goal

abbrev pub invariant-loop-number : goal.invariant-loop-number
invariant-loop-number g l = record {
  all : (n : ℕ) → n < l.number → RunsIn g.C.Core.opening g.C.Core.hart_count g.C.Core.is_local g.C.Core.ahead_by l.core n (get_or l.all.items n None);
  count : length l.all.items ≡ l.number;
  room : vec_capacity l.all ≡ vec_capacity l.initial.all;
}
