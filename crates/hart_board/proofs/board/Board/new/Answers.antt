use Rattle.std.proofs.Common.{arith, ap, sym, ◌∙◌, subst, ◌+◌, ◌≤◌, length, ◌-◌, ◌≡◌, ℕ, Option, get_or, None}
use Rattle.hart_board.specs.declared.core_turn.Ahead.{Ahead}
use Rattle.hart_board.specs.declared.seat.Seat.{Seat}
use Rattle.hart_board.specs.BoardRule.{numbers_from}
use Rattle.hart_board.specs.Seats.{IsInReach}
use Rattle.hart_board.specs.CoreTurns.{RunsIn}
use Rattle.hart_board.proofs.Dealing.{new_seat, row_more, row_length}
use Rattle.hart_board.proofs.board.Board.new.Goals as goal

pub push_reserved-requires : goal.push_reserved-requires
push_reserved-requires g c = let d = c.deal.ensures in let n = row_length c.deal.new.row.items (c.args.seats - 1) d.numbers in let room = d.room in
    let cap = c.in_ok-row.ensures.capacity in let some = c.requires.some in omega (arith, n, room, cap, some)

pub returns-clause-numbers : goal.returns-clause-numbers
returns-clause-numbers g c = let d = c.deal.ensures in let n = c.args.seats - 1 in let some = c.requires.some in let b = c.in_ok-board.ensures.board in
    let s = c.seated.result in let is = c.seated.ensures in let board = c.in_ok-board.board in
    let reach : IsInReach g.C.Core.history g.C.Core.space board.table.shared.key = record {
      reached = subst (λ (z : g.row.C.Denot × ℕ). z.1 ≤ length (g.C.Core.history z.0) + g.C.Core.space z.0) (λ i. (sym b.0 i, sym b.3 i)) c.requires.ceiling.1;
      begun = subst (λ (z : g.row.C.Denot × ℕ). length (g.C.Core.history z.0) ≤ z.1) (λ i. (sym b.0 i, sym b.3 i)) c.requires.ceiling.0;
    } in
    let new = new_seat g.C.Core.history g.C.Core.space (RunsIn g.C.Core.opening g.C.Core.hart_count g.C.Core.is_local g.C.Core.ahead_by) board s n
    (ap (λ (z : Seat _ _). z.place.table_id) is ∙ d.place.0) (ap (λ (z : Seat _ _). z.place.me) is ∙ d.place.1) (ap (λ (z : Seat _ _). z.number) is)
    (ap (λ (z : Seat _ _). z.turns) is ∙ sym b.2) (ap (λ (z : Seat _ _). z.ceiling) is ∙ sym b.3) (ap (λ (z : Seat _ _). z.made) is)
    (ap (λ (z : Seat _ _). z.ticket) is) (let small = c.ranges.seats.fits in omega (arith, small, some)) (let all = b.1 in omega (arith, all, some)) reach
    (subst (λ (z : ℕ × Option (Ahead g.row.C-Local.Denot)).
    RunsIn g.C.Core.opening g.C.Core.hart_count g.C.Core.is_local g.C.Core.ahead_by board.table.shared.key.opening.value z.0 z.1)
    (λ j. (sym (ap (λ (z : Seat _ _). z.number) is) j, sym (ap (λ (z : Seat _ _). z.local) is ∙ c.take_at-last.ensures.taken) j)) d.ahead) in
    let row = row_more g.C.Core.history g.C.Core.space (RunsIn g.C.Core.opening g.C.Core.hart_count g.C.Core.is_local g.C.Core.ahead_by) board
    c.deal.new.row.items c.push_reserved.new.self.items s n c.push_reserved.ensures.items d.numbers d.seats (ap (λ (z : Seat _ _). z.number) is) new in
    let whole : n + 1 ≡ c.args.seats = omega (arith, some) in
    row.0 ∙ ap (numbers_from 0) whole

pub returns-clause-seats : goal.returns-clause-seats
returns-clause-seats g c = let d = c.deal.ensures in let n = c.args.seats - 1 in let some = c.requires.some in let b = c.in_ok-board.ensures.board in
    let s = c.seated.result in let is = c.seated.ensures in let board = c.in_ok-board.board in
    let reach : IsInReach g.C.Core.history g.C.Core.space board.table.shared.key = record {
      reached = subst (λ (z : g.row.C.Denot × ℕ). z.1 ≤ length (g.C.Core.history z.0) + g.C.Core.space z.0) (λ i. (sym b.0 i, sym b.3 i)) c.requires.ceiling.1;
      begun = subst (λ (z : g.row.C.Denot × ℕ). length (g.C.Core.history z.0) ≤ z.1) (λ i. (sym b.0 i, sym b.3 i)) c.requires.ceiling.0;
    } in
    let new = new_seat g.C.Core.history g.C.Core.space (RunsIn g.C.Core.opening g.C.Core.hart_count g.C.Core.is_local g.C.Core.ahead_by) board s n
    (ap (λ (z : Seat _ _). z.place.table_id) is ∙ d.place.0) (ap (λ (z : Seat _ _). z.place.me) is ∙ d.place.1) (ap (λ (z : Seat _ _). z.number) is)
    (ap (λ (z : Seat _ _). z.turns) is ∙ sym b.2) (ap (λ (z : Seat _ _). z.ceiling) is ∙ sym b.3) (ap (λ (z : Seat _ _). z.made) is)
    (ap (λ (z : Seat _ _). z.ticket) is) (let small = c.ranges.seats.fits in omega (arith, small, some)) (let all = b.1 in omega (arith, all, some)) reach
    (subst (λ (z : ℕ × Option (Ahead g.row.C-Local.Denot)).
    RunsIn g.C.Core.opening g.C.Core.hart_count g.C.Core.is_local g.C.Core.ahead_by board.table.shared.key.opening.value z.0 z.1)
    (λ j. (sym (ap (λ (z : Seat _ _). z.number) is) j, sym (ap (λ (z : Seat _ _). z.local) is ∙ c.take_at-last.ensures.taken) j)) d.ahead) in
    (row_more g.C.Core.history g.C.Core.space (RunsIn g.C.Core.opening g.C.Core.hart_count g.C.Core.is_local g.C.Core.ahead_by) board c.deal.new.row.items
    c.push_reserved.new.self.items s n c.push_reserved.ensures.items d.numbers d.seats (ap (λ (z : Seat _ _). z.number) is) new).1

pub deal-requires-clause-ahead : goal.deal-requires-clause-ahead
deal-requires-clause-ahead g c κs within =
    λ n below. subst (λ (z : g.row.C.Denot).
    RunsIn g.C.Core.opening g.C.Core.hart_count g.C.Core.is_local g.C.Core.ahead_by z n (get_or c.in_ok-ahead.ahead.items n None))
    (sym c.in_ok-board.ensures.board.0) (c.in_ok-ahead.ensures n (let some = c.requires.some in omega (arith, below, some)))
