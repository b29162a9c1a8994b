use Rattle.std.proofs.Common.{arith, ap, sym, ◌∙◌, subst, List, [], ◌∷◌, All}
use Rattle.hart_board.specs.declared.seat.Seat.{Seat}
use Rattle.hart_board.specs.Seats.{IsSeatAt}
use Rattle.hart_board.specs.links.Gathered.{Gathers}
use Rattle.hart_board.proofs.Gathering.{gathers_first, gathers_more, all_at, one_less, none_left}
use Rattle.hart_board.proofs.closing.gather.Goals as goal

pub loop-seat-init : goal.loop-seat-init
loop-seat-init g c =
    let id = c.args.table.now.shared.table_id in let key = c.args.table.now.shared.key in
    let h = all_at (IsSeatAt id key) c.pop.new.self.items [] c.in-Some.first (subst (All (IsSeatAt id key)) c.in-Some.ensures.items c.requires.seats) in
    record { table = h.table; rest = c.in-Some.first ∷ []; all = c.in-Some.ensures.items; known = h.known; gathers = gathers_first id key c.in-Some.first h }

pub meet-requires-clause-table : goal.meet-requires-clause-table
meet-requires-clause-table g c κs within =
    let id = c.args.table.now.shared.table_id in let key = c.args.table.now.shared.key in let i = c.loop-seat.invariant in let s = c.in-Some-pop.seat in
    let h = all_at (IsSeatAt id key) c.pop-in-loop-seat.new.self.items i.rest s
    (subst (All (IsSeatAt id key))
    (one_less c.args.seats.now.items c.loop-seat.seats.items c.pop-in-loop-seat.new.self.items i.rest s i.all c.in-Some-pop.ensures.items) c.requires.seats) in
    (i.table, h.table)

pub meet-requires-clause-seats : goal.meet-requires-clause-seats
meet-requires-clause-seats g c κs within =
    let id = c.args.table.now.shared.table_id in let key = c.args.table.now.shared.key in let i = c.loop-seat.invariant in let s = c.in-Some-pop.seat in
    let h = all_at (IsSeatAt id key) c.pop-in-loop-seat.new.self.items i.rest s
    (subst (All (IsSeatAt id key))
    (one_less c.args.seats.now.items c.loop-seat.seats.items c.pop-in-loop-seat.new.self.items i.rest s i.all c.in-Some-pop.ensures.items) c.requires.seats) in
    (i.known, h.known, ap (λ m. m.0) i.gathers.me, h.represents.me, i.gathers.out, h.represents.out)

pub loop-seat-preserved-in-Some-pop : goal.loop-seat-preserved-in-Some-pop
loop-seat-preserved-in-Some-pop g c =
    let id = c.args.table.now.shared.table_id in let key = c.args.table.now.shared.key in let i = c.loop-seat.invariant in let s = c.in-Some-pop.seat in
    let all = one_less c.args.seats.now.items c.loop-seat.seats.items c.pop-in-loop-seat.new.self.items i.rest s i.all c.in-Some-pop.ensures.items in
    let h = all_at (IsSeatAt id key) c.pop-in-loop-seat.new.self.items i.rest s (subst (All (IsSeatAt id key)) all c.requires.seats) in
    let me = c.meet.ensures.met i.known h.known (ap (λ m. m.0) i.gathers.me) h.represents.me in
    record {
      table = c.meet.ensures.same.0 ∙ i.table;
      rest = s ∷ i.rest;
      all = all;
      known = _;
      gathers = gathers_more id key s h i.rest c.loop-seat.place c.meet.new.place i.known i.gathers me;
    }

pub loop-seat-preserved : goal.loop-seat-preserved
loop-seat-preserved g c =
    let id = c.args.table.now.shared.table_id in let key = c.args.table.now.shared.key in let i = c.loop-seat.invariant in let s = c.in-Some-pop.seat in
    let all = one_less c.args.seats.now.items c.loop-seat.seats.items c.pop-in-loop-seat.new.self.items i.rest s i.all c.in-Some-pop.ensures.items in
    let h = all_at (IsSeatAt id key) c.pop-in-loop-seat.new.self.items i.rest s (subst (All (IsSeatAt id key)) all c.requires.seats) in
    let me = c.meet.ensures.met i.known h.known (ap (λ m. m.0) i.gathers.me) h.represents.me in
    record {
      table = c.meet.ensures.same.0 ∙ i.table;
      rest = s ∷ i.rest;
      all = all;
      known = _;
      gathers = gathers_more id key s h i.rest c.loop-seat.place c.meet.new.place i.known i.gathers me;
    }

pub returns-clause-knows : goal.returns-clause-knows
returns-clause-knows g c = let i = c.loop-seat.invariant in let none = c.in_default-pop.ensures.cases in (
  i.known,
  subst (λ (z : List (Seat _ _)). Gathers c.args.table.now.shared.key z c.loop-seat.place i.known)
      (sym (none_left c.args.seats.now.items c.loop-seat.seats.items i.rest i.all (omega (arith, none)))) i.gathers,
)
