use Rattle.std.proofs.Common.{◌≡◌, true}
use Rattle.flow_graph.specs.Nodes.{graph_of}
use Rattle.region_cutter.proofs.RegionLimits.{next_later}
use Rattle.region_cutter.proofs.region_limits.next_from.Goals as goal

pub returns-else-writes_over : goal.returns-else-writes_over
returns-else-writes_over c =
    next_later (graph_of c.args.graph.now) c.args.track.elements c.args.number c.args.past c.args.track.next
    (λ w. let e : c.writes_over.result ≡ true = c.writes_over.ensures.1 w in cc (c.if-writes_over.false)) c.requires.tracked.next
