use Rattle.std.proofs.Common.{◌≡◌, ◌+◌, ◌≤◌, length}
use Rattle.std.specs.Vec.{vec_capacity, vec_len}
use Rattle.hart_driver.specs.links.UnderWay.{AreStops, IsUnderWay}
use Rattle.hart_driver.proofs.finishing.make_round.Given as goal

abbrev pub invariant-loop-worker : goal.invariant-loop-worker
invariant-loop-worker g l = record {
  under_way : IsUnderWay g.C.Core.behaviour g.C.Core.opening g.C.Core.history g.C.Core.hart_count g.V.Evictions.coming g.C.Core.space
      g.C.Core.evictable l.start l.core l.counts l.evict;
  room : vec_capacity l.stops ≡ vec_capacity l.fn.stops;
  grown : length (g.C.Core.history l.fn.core) ≤ length (g.C.Core.history l.core);
  each : length (g.C.Core.history l.core) + vec_len l.stops ≡ length (g.C.Core.history l.fn.core) + l.worker;
  stops : vec_len l.stops ≡ l.worker →
      AreStops g.C.Core.behaviour g.C.Core.opening g.C.Core.history g.C.Core.hart_count g.V.Evictions.coming l.start l.core l.worker l.stops.items;
}
