use Rattle.std.proofs.Common.{sym, subst, length, ◌+◌, ◌≤◌, replicate}
use Rattle.machine_events.specs.declared.event.Event.{Event}
use Rattle.machine_events.specs.Cores.{IsValid}
use Rattle.hart_board.specs.CoreTurns.{IsPlayed, Makes, TurnGives, count_made, events_made}
use Rattle.hart_board.proofs.MadeEvents.{gives_more, own_step}
use Rattle.hart_board.proofs.StepsAhead.{adopts_nothing}
use Rattle.hart_board.proofs.core_turn.adopt_or_make.Goals as goal

pub make_one-requires-clause-valid : goal.make_one-requires-clause-valid
make_one-requires-clause-valid g c κs within =
    subst (λ (z : g.row.C.Denot). IsValid (g.C.Core.hart_count z) (g.C.Core.evictable z) c.args.event) (sym c.in_default.ensures.made) c.requires.valid

pub make_one-requires-clause-ceiling : goal.make_one-requires-clause-ceiling
make_one-requires-clause-ceiling g c κs within =
    subst (λ (z : g.row.C.Denot). (length (g.C.Core.history z) ≤ c.args.quota.ceiling)
    × (c.args.quota.ceiling ≤ length (g.C.Core.history z) + g.C.Core.space z)) (sym c.in_default.ensures.made) c.requires.ceiling

pub returns-in-Some : goal.returns-in-Some
returns-in-Some g c = let e = c.in-Some.ensures.made in
    let step = sym (own_step (g.C.Core.hart_count c.args.core.now) c.args.quota.seat c.args.event c.requires.own e.0) in record {
      played =
          subst (λ (z : Event). IsPlayed g.C.Core.opening g.C.Core.history g.C.Core.hart_count g.C.Core.space g.C.Core.evictable c.args.core.now
          (replicate c.in-Some.made.count z) c.adopt.new.core) step e.1;
      turn =
          subst (λ (z : Event). Makes g.C.Core.behaviour g.C.Core.opening g.C.Core.history g.C.Core.hart_count c.args.core.now c.args.quota z c.args.most
          c.in-Some.made) step e.2;
      adopts = c.in-Some.ensures.adopts;
    }

pub returns : goal.returns
returns g c = record {
  played =
      subst (λ (z : g.row.C.Denot). IsPlayed g.C.Core.opening g.C.Core.history g.C.Core.hart_count g.C.Core.space g.C.Core.evictable z
      (events_made c.args.event c.make_one.result) c.make_one.new.core) c.in_default.ensures.made c.make_one.ensures.played;
  turn =
      subst (λ (z : g.row.C.Denot). TurnGives g.C.Core.behaviour g.C.Core.opening g.C.Core.history g.C.Core.hart_count z c.args.quota c.args.event c.args.most
      c.make_one.result) c.in_default.ensures.made
      (gives_more g.C.Core.behaviour g.C.Core.opening g.C.Core.history g.C.Core.hart_count c.adopt.new.core c.args.quota c.args.event 1 c.args.most
      c.make_one.result c.requires.some c.make_one.ensures.turn);
  adopts =
      adopts_nothing g.C.Core.history g.C.Core.is_at_beginning c.args.core.now c.args.quota c.args.most c.args.ahead.now (count_made c.make_one.result)
      c.in_default.ensures.adopts;
}
