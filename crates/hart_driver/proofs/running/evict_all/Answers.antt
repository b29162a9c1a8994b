use Rattle.std.proofs.Common.{◌∙◌}
use Rattle.hart_board.specs.Seats.{rules_of}
use Rattle.hart_driver.proofs.OwnEvictions.{evicts_more, evicts_over}
use Rattle.hart_driver.proofs.running.evict_all.Goals as goal

pub returns-in-Over-clause-evicts : goal.returns-in-Over-clause-evicts
returns-in-Over-clause-evicts g c =
    evicts_over g.V.Evictions.coming
    (rules_of g.C.Core.behaviour g.C.Core.opening g.C.Core.history g.C.Core.hart_count c.args.board.now) c.args.evict.now c.loop-turn.seat c.evict_turn.new.seat
    c.loop-turn.evict c.in-Over.ensures.seat.1 c.in-Over.ensures.turn c.loop-turn.invariant.evicts

pub loop-turn-preserved : goal.loop-turn-preserved
loop-turn-preserved g c = let t = c.in-Did.ensures.turn in record {
  seat = c.in-Did.ensures.seat.0;
  same = c.in-Did.ensures.seat.1 ∙ c.loop-turn.invariant.same;
  evicts =
      evicts_more g.V.Evictions.coming
      (rules_of g.C.Core.behaviour g.C.Core.opening g.C.Core.history g.C.Core.hart_count c.args.board.now) c.args.evict.now c.loop-turn.seat
      c.evict_turn.new.seat c.loop-turn.evict c.advance.new.self c.now-line.result.0 c.now-line.result.1 c.in-Did.events c.in-Did.last
      c.in-Did.ensures.seat.1 t.some t.few c.now-line.ensures t.turn c.advance.ensures c.loop-turn.invariant.evicts;
}
