use Rattle.std.proofs.Common.{refl, arith, inl}
use Rattle.hart_board.proofs.MadeEvents.{makes_first, plays_first, room_first}
use Rattle.hart_board.proofs.FirstState.{played_self}
use Rattle.hart_board.proofs.core_turn.make_one.Goals as goal

pub event-last-requires : goal.event-last-requires
event-last-requires g c = record {
  room =
      room_first g.C.Core.behaviour g.C.Core.opening g.C.Core.history g.C.Core.hart_count g.C.Core.space g.C.Core.evictable c.args.core.now c.args.quota
      (λ d. cc (c.is_done.ensures.1 d, c.if-is_done.false)) c.requires.ceiling.0 c.requires.ceiling.1;
  valid = inl c.requires.valid;
}

pub returns-then-is_done : goal.returns-then-is_done
returns-then-is_done g c = record {
  played = played_self g.C.Core.opening g.C.Core.history g.C.Core.hart_count g.C.Core.space g.C.Core.evictable c.args.core.now c.args.core.now refl;
  turn = c.is_done.ensures.0 c.if-is_done.true;
}

pub returns : goal.returns
returns g c = let e = c.event-last.ensures in record {
  played =
      plays_first g.C.Core.behaviour g.C.Core.opening g.C.Core.history g.C.Core.hart_count g.C.Core.space g.C.Core.evictable c.args.core.now
      c.event-last.new.self c.args.event e.opening e.history e.room e.harts e.evictable;
  turn =
      makes_first g.C.Core.behaviour g.C.Core.opening g.C.Core.history g.C.Core.hart_count g.C.Core.space g.C.Core.evictable c.args.core.now c.args.quota
      c.args.event 1 c.event-last.result (omega arith) (λ d. cc (c.is_done.ensures.1 d, c.if-is_done.false)) c.requires.turns
      c.requires.ceiling.0 e.reply;
}
