use Rattle.hart_board.specs.declared.seat.Turn.TheVariants.{Did, Over}
use Rattle.hart_board.specs.Seats.{opening_core, rules_of}
use Rattle.hart_board.specs.CoreTurns.{IsPlayed}
use Rattle.hart_board.proofs.TriedTurns.{turn_after}
use Rattle.hart_board.proofs.StepsAhead.{took_after}
use Rattle.hart_board.proofs.board.Board.await_turn.Goals as goal

pub returns-in-Did-clause-turn : goal.returns-in-Did-clause-turn
returns-in-Did-clause-turn g c = let i = c.loop.invariant in
    turn_after (rules_of g.C.Core.behaviour g.C.Core.opening g.C.Core.history g.C.Core.hart_count c.args.self.now) c.args.event c.args.most
    (Did c.in-Did.events c.in-Did.last) c.args.seat.now c.loop.seat c.attempt.new.seat
    i.begins i.own i.same c.in-Did.ensures.turn

pub returns-in-Over-clause-turn : goal.returns-in-Over-clause-turn
returns-in-Over-clause-turn g c = let i = c.loop.invariant in
    turn_after (rules_of g.C.Core.behaviour g.C.Core.opening g.C.Core.history g.C.Core.hart_count c.args.self.now) c.args.event c.args.most Over c.args.seat.now
    c.loop.seat c.attempt.new.seat i.begins i.own i.same c.in-Over.ensures.turn

pub returns-in-Did-clause-ahead : goal.returns-in-Did-clause-ahead
returns-in-Did-clause-ahead g c = let i = c.loop.invariant in
    took_after g.C.Core.history g.C.Core.is_at_beginning g.C.Core.goes_ahead
    (IsPlayed g.C.Core.opening g.C.Core.history g.C.Core.hart_count g.C.Core.space g.C.Core.evictable (opening_core c.args.self.now)) c.args.most
    c.in-Did.events c.args.seat.now c.loop.seat c.attempt.new.seat i.on i.quota c.in-Did.ensures.ahead

pub returns-in-Over-clause-ahead : goal.returns-in-Over-clause-ahead
returns-in-Over-clause-ahead g c = let i = c.loop.invariant in
    took_after g.C.Core.history g.C.Core.is_at_beginning g.C.Core.goes_ahead
    (IsPlayed g.C.Core.opening g.C.Core.history g.C.Core.hart_count g.C.Core.space g.C.Core.evictable (opening_core c.args.self.now)) c.args.most 0
    c.args.seat.now c.loop.seat c.attempt.new.seat i.on i.quota c.in-Over.ensures.ahead
