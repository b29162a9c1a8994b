use Rattle.std.proofs.Common.{◌≡◌, true}
use Rattle.flow_graph.specs.Nodes.{graph_of}
use Rattle.region_cutter.proofs.RegionLimits.{hit_read, hit_later}
use Rattle.region_cutter.proofs.region_limits.hit_from.Goals as goal

pub returns-then-reads : goal.returns-then-reads
returns-then-reads c =
    hit_read (graph_of c.args.graph.now) c.args.track.elements c.args.number c.args.past c.args.track.next (c.reads.ensures.0 c.if-reads.true)
    c.requires.tracked.next

pub returns-else-writes_same : goal.returns-else-writes_same
returns-else-writes_same c =
    hit_later (graph_of c.args.graph.now) c.args.track.elements c.args.number c.args.past c.args.track.hit
    (λ r. let e : c.reads.result ≡ true = c.reads.ensures.1 r in cc (c.if-reads.false))
    (λ w. let e : c.writes_same.result ≡ true = c.writes_same.ensures.1 w in cc (c.if-writes_same.false)) c.requires.tracked.hit
