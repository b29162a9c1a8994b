use Rattle.std.proofs.Common.{arith, ◌+◌, refl, None, sym, subst, ℕ}
use Rattle.hart_board.specs.declared.views.View.TheVariants.{Seated}
use Rattle.hart_board.specs.declared.seat.Seat.{Seat}
use Rattle.hart_board.specs.CoreTurns.{RunsAhead}
use Rattle.hart_board.proofs.ServedTurns.{held, passes_on, made_below, after, begins_after}
use Rattle.hart_board.proofs.board.Board.serve.Goals as goal

pub act-made-requires-clause-held : goal.act-made-requires-clause-held
act-made-requires-clause-held g c κs lives = let t = c.requires.turn in
    let x = held g.C.Core c.args.seat.now t.0 t.1 c.args.event
    t.2 t.3 t.4 t.5 in (
      Seated t.0,
      t.1,
      t.2.me,
      x.0,
      x.1,
      x.2,
      x.3,
      subst (λ (z : g.C.Core.Meaning × ℕ). RunsAhead g.C.Core.is_local g.C.Core.ahead_by z.0 z.1 c.args.seat.now.number c.args.seat.now.local)
          (λ i. (sym t.2.plays.opens i, sym t.2.plays.harts i)) t.6,
    )

pub pass-requires-clause-turn : goal.pass-requires-clause-turn
pass-requires-clause-turn g c κs lives = let t = c.requires.turn in let a = c.act-made.ensures.acted (Seated t.0) t.1 t.2.me in
    let p = passes_on g.C.Core c.args.event c.args.most c.act-made.result t.2 t.3 t.4 a.2 a.3 in
    (t.0, c.args.seat.now.number, a.0, a.1, t.2.numbers, t.2.turning, p.0, p.1)

pub overflow_add-seat : goal.overflow_add-seat
overflow_add-seat g c = let t = c.requires.turn in let a = c.act-made.ensures.acted (Seated t.0) t.1 t.2.me in
    let w = made_below g.C.Core c.args.event c.args.most c.act-made.result t.2 t.3 t.4 a.2 a.3 in
    let n = c.count_of.ensures in
    omega (arith, w, n)

pub returns-clause-turn : goal.returns-clause-turn
returns-clause-turn g c k core h = let t = c.requires.turn in
    let a = c.act-made.ensures.acted (Seated k) core h.me in
    let p = c.pass.ensures.passed.1 k c.args.seat.now.number a.0 a.1 h.numbers in
    let new : Seat g.row.C.Denot g.row.C-Local.Denot = record {
      place = c.pass.new.place;
      number = c.args.seat.now.number;
      turns = c.args.seat.now.turns;
      ceiling = c.args.seat.now.ceiling;
      made = c.args.seat.now.made + c.count_of.result;
      ticket = None;
      local = c.act-made.new.ahead;
    } in
    let x = after g.C.Core c.args.seat.now t.0 t.1 k core
    c.args.event c.args.most c.act-made.result new
    t.2 h t.3 t.4 (a.0, p, a.2, a.3) refl refl refl (let n = c.count_of.ensures in omega (arith, n)) refl in (
      x.0,
      x.1,
      x.2,
      subst (λ (z : g.C.Core.Meaning × ℕ). RunsAhead g.C.Core.is_local g.C.Core.ahead_by z.0 z.1 c.args.seat.now.number c.act-made.new.ahead)
          (λ i. (h.plays.opens i, h.plays.harts i)) a.4,
      a.5,
      begins_after g.C.Core c.args.seat.now k core a.0 c.args.event c.act-made.result new h x.1 a.2 a.6,
    )
