use Rattle.std.proofs.Common.{◌-◌, replicate}
use Rattle.hart_board.specs.CoreTurns.{Adopts, IsPlayed, Makes}
use Rattle.hart_board.proofs.core_turn.make_events.Given as goal

abbrev pub invariant-loop-count : goal.invariant-loop-count
invariant-loop-count g l = record {
  played : IsPlayed g.C.Core.opening g.C.Core.history g.C.Core.hart_count g.C.Core.space g.C.Core.evictable l.fn.core (replicate l.count l.event) l.core;
  makes : Makes g.C.Core.behaviour g.C.Core.opening g.C.Core.history g.C.Core.hart_count l.fn.core l.quota l.event l.most record {
    count = l.count;
    last = l.last;
  };
  adopts : Adopts g.C.Core.history g.C.Core.is_at_beginning l.fn.core l.quota l.most l.ahead l.count;
}

abbrev pub decreases-loop-count : goal.decreases-loop-count
decreases-loop-count g l = l.most - l.count
