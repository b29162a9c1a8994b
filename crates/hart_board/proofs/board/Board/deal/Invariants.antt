use Rattle.std.proofs.Common.{◌≡◌, ◌<◌, ◌≤◌, ◌+◌, [], ℕ, get_or, None}
use Rattle.std.specs.Prelude.{All}
use Rattle.std.specs.Vec.{vec_capacity}
use Rattle.hart_board.specs.CoreTurns.{RunsIn}
use Rattle.hart_board.specs.declared.views.View.TheVariants.{Seated}
use Rattle.hart_board.specs.BoardRule.{dealt, numbers_from}
use Rattle.hart_board.specs.Seats.{IsSeatOf, numbers_of, seen}
use Rattle.hart_board.proofs.board.Board.deal.Given as goal

abbrev pub invariant-loop-number : goal.invariant-loop-number
invariant-loop-number g l = record {
  table : l.place.table_id ≡ l.self.table.shared.table_id;
  me : (n : ℕ) → l.number + n ≡ l.count + 1 → l.place.me ≡ (Seated (dealt l.self.table.shared.key (numbers_from l.number n)), []);
  numbers : numbers_of l.row.items ≡ numbers_from 0 l.number;
  seats : All (λ s. IsSeatOf g.C.Core.history g.C.Core.space (RunsIn g.C.Core.opening g.C.Core.hart_count g.C.Core.is_local g.C.Core.ahead_by) l.self s
      × (seen s ≡ [])) l.row.items;
  ahead : (n : ℕ) → l.number ≤ n → n < l.count + 1 →
      RunsIn g.C.Core.opening g.C.Core.hart_count g.C.Core.is_local g.C.Core.ahead_by l.self.table.shared.key.opening.value n
      (get_or l.ahead.items n None);
  room : vec_capacity l.row ≡ vec_capacity l.fn.row;
}
