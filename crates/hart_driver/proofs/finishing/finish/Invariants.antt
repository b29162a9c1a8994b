use Rattle.std.proofs.Common.{◌≡◌, ◌+◌, ◌-◌, ◌≤◌, length}
use Rattle.std.specs.Vec.{vec_capacity, vec_len}
use Rattle.hart_driver.specs.links.UnderWay.{AreStops, IsUnderWay}
use Rattle.hart_driver.proofs.finishing.finish.Given as goal

abbrev pub invariant-loop-stops : goal.invariant-loop-stops
invariant-loop-stops g l = record {
  under_way : IsUnderWay g.C.Core.behaviour g.C.Core.opening g.C.Core.history g.C.Core.hart_count g.V.Evictions.coming g.C.Core.space
      g.C.Core.evictable l.start l.core l.counts l.evict;
  room : vec_capacity l.stops ≡ vec_capacity l.fn.stops;
  few : vec_len l.stops ≤ l.count;
  stops : vec_len l.stops ≡ l.count →
      AreStops g.C.Core.behaviour g.C.Core.opening g.C.Core.history g.C.Core.hart_count g.V.Evictions.coming l.start l.core l.count l.stops.items;
}

abbrev pub decreases-loop-stops : goal.decreases-loop-stops
decreases-loop-stops g l = (l.start.moment - length (g.C.Core.history l.core)) + (l.count - vec_len l.stops)
