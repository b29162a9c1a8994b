use Rattle.std.proofs.Common.{arith, inl, rules, subst, sym, ◌∙◌, replicate, Option, ◌+◌}
use Rattle.hart_board.specs.declared.core_turn.Made.{Made}
use Rattle.hart_board.specs.CoreTurns.{Adopts, IsPlayed, TurnGives, count_made, events_made}
use Rattle.hart_board.proofs.MadeEvents.{makes_more, plays_more, done_after, room_more, reply_next}
use Rattle.hart_board.proofs.ServedTurns.{still_valid}
use Rattle.hart_board.proofs.StepsAhead.{adopts_more}
use Rattle.hart_board.proofs.core_turn.make_events.Goals as goal

pub loop-count-init : goal.loop-count-init
loop-count-init g c = let e = c.adopt_or_make.ensures in record {
  played =
      subst (λ (z : Option Made). IsPlayed g.C.Core.opening g.C.Core.history g.C.Core.hart_count g.C.Core.space g.C.Core.evictable c.args.core.now
      (events_made c.args.event z) c.adopt_or_make.new.core) c.in-Some.is e.played;
  makes =
      subst (λ (z : Option Made). TurnGives g.C.Core.behaviour g.C.Core.opening g.C.Core.history g.C.Core.hart_count c.args.core.now c.args.quota c.args.event
      c.args.most z) c.in-Some.is e.turn;
  adopts =
      subst (λ (z : Option Made). Adopts g.C.Core.history g.C.Core.is_at_beginning c.args.core.now c.args.quota c.args.most c.args.ahead.now (count_made z))
      c.in-Some.is e.adopts;
}

pub overflow_add-so_far : goal.overflow_add-so_far
overflow_add-so_far g c = let w = c.loop-count.invariant.makes.within_turns in search rules

pub event-last-requires : goal.event-last-requires
event-last-requires g c = let i = c.loop-count.invariant in record {
  room =
      room_more g.C.Core.behaviour g.C.Core.opening g.C.Core.history g.C.Core.hart_count g.C.Core.space g.C.Core.evictable c.args.core.now c.loop-count.core
      c.args.quota c.args.event c.args.most c.loop-count.count c.loop-count.last i.played i.makes
      (λ d. cc (c.is_done.ensures.1 d, c.if-is_done.false)) c.requires.ceiling.1;
  valid =
      inl (still_valid g.C.Core.opening g.C.Core.history g.C.Core.hart_count g.C.Core.space g.C.Core.evictable c.args.core.now c.loop-count.core
      (replicate c.loop-count.count c.args.event) c.args.event i.played c.requires.valid);
}

pub loop-count-preserved : goal.loop-count-preserved
loop-count-preserved g c = let e = c.event-last.ensures in let i = c.loop-count.invariant in record {
  played =
      plays_more g.C.Core.behaviour g.C.Core.opening g.C.Core.history g.C.Core.hart_count g.C.Core.space g.C.Core.evictable c.args.core.now c.loop-count.core
      c.event-last.new.self c.args.event c.loop-count.count i.played e.opening e.history e.room e.harts e.evictable;
  makes =
      makes_more g.C.Core.behaviour g.C.Core.opening g.C.Core.history g.C.Core.hart_count g.C.Core.space g.C.Core.evictable c.args.core.now c.args.quota
      c.args.event c.args.most c.loop-count.count c.loop-count.last c.event-last.result i.makes
      (let t = c.loop-count-test.true in let m = c.min-limit.ensures in omega (arith, t, m))
      (sym c.is_idle.ensures ∙ c.if-is_idle.false)
      (λ d.
      cc (
        c.is_done.ensures.1
            (done_after g.C.Core.behaviour g.C.Core.opening g.C.Core.history g.C.Core.hart_count g.C.Core.space g.C.Core.evictable c.args.core.now
            c.loop-count.core c.args.quota c.args.event c.loop-count.count i.played d),
        c.if-is_done.false,
      ))
      (reply_next g.C.Core.behaviour g.C.Core.opening g.C.Core.history g.C.Core.hart_count g.C.Core.space g.C.Core.evictable c.args.core.now c.loop-count.core
      c.args.event (replicate c.loop-count.count c.args.event) c.event-last.result i.played e.reply);
  adopts =
      adopts_more g.C.Core.history g.C.Core.is_at_beginning c.args.core.now c.args.quota c.args.most c.args.ahead.now c.loop-count.count
      (c.loop-count.count + 1) (omega arith) i.adopts;
}

pub returns-then-is_idle : goal.returns-then-is_idle
returns-then-is_idle g c = record {
  played = c.loop-count.invariant.played;
  turn = c.loop-count.invariant.makes;
  adopts = c.loop-count.invariant.adopts;
}

pub returns-then-is_done : goal.returns-then-is_done
returns-then-is_done g c = record {
  played = c.loop-count.invariant.played;
  turn = c.loop-count.invariant.makes;
  adopts = c.loop-count.invariant.adopts;
}

pub returns-after-loop-count : goal.returns-after-loop-count
returns-after-loop-count g c = record {
  played = c.loop-count.invariant.played;
  turn = c.loop-count.invariant.makes;
  adopts = c.loop-count.invariant.adopts;
}
