use Rattle.std.proofs.Common.{arith, sym, subst, ap, ◌∙◌, ◌++◌, replicate, Option, ℕ}
use Rattle.std.proofs.lemmas.List.{length-replicate}
use Rattle.machine_events.specs.declared.event.Event.TheVariants.{Step}
use Rattle.machine_events.specs.Cores.{EachMoves}
use Rattle.hart_board.specs.declared.core_turn.Ahead.{Ahead}
use Rattle.hart_board.specs.CoreTurns.{RunsIn}
use Rattle.hart_board.proofs.MadeEvents.{adopts}
use Rattle.hart_board.proofs.core_turn.adopt.Goals as goal

pub adopt-requires : goal.adopt-requires
adopt-requires g c =
    let a = subst (λ (z : Option (Ahead g.row.C-Local.Denot)).
    RunsIn g.C.Core.opening g.C.Core.hart_count g.C.Core.is_local g.C.Core.ahead_by c.args.core.now c.args.quota.seat z) c.in-Some.is c.requires.ahead in
    record {
      exists = a.0;
      own = a.1;
      room = (let n = a.2 in let f = c.if-ahead-quota-2.false in let e = c.events.ensures in let r = c.requires.ceiling.1 in omega (arith, n, f, e, r));
    }

pub returns-clause-made : goal.returns-clause-made
returns-clause-made g c =
    let a = subst (λ (z : Option (Ahead g.row.C-Local.Denot)).
    RunsIn g.C.Core.opening g.C.Core.hart_count g.C.Core.is_local g.C.Core.ahead_by c.args.core.now c.args.quota.seat z) c.in-Some.is c.requires.ahead in
    let e = c.if-not-adopt.ensures.made in let count = c.in-Some.ahead.steps in (
      a.0,
      record {
        opens = e.0;
        events_are = e.1 ∙ ap (λ (n : ℕ). g.C.Core.history c.args.core.now ++ replicate n (Step c.args.quota.seat)) (sym a.2);
        harts = e.2;
        room = (let r = e.3 in let n = a.2 in let l = length-replicate count (Step c.args.quota.seat) in omega (arith, r, n, l));
        evicts = e.5;
      },
      adopts g.C.Core.behaviour g.C.Core.opening g.C.Core.history g.C.Core.hart_count c.args.core.now c.args.quota c.args.most count
          (let n = c.if-ahead-eq0.false in omega (arith, n))
          c.if-ahead-most.false
          (let f = c.if-ahead-quota.false in let t = c.requires.turns in omega (arith, f, t))
          (let f = c.if-ahead-quota-2.false in let v = c.events.ensures in let t = c.requires.ceiling.0 in omega (arith, f, v, t))
          (subst (λ (n : ℕ). EachMoves g.C.Core.behaviour (g.C.Core.opening c.args.core.now) (g.C.Core.history c.args.core.now) c.args.quota.seat n) (sym a.2)
          e.4),
    )
