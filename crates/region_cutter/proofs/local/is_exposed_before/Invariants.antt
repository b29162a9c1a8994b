use Rattle.std.proofs.Common.{◌≡◌, length, None}
use Rattle.flow_graph.specs.Nodes.{graph_of}
use Rattle.flow_graph.specs.IdempotentCuts.{boundaries_of}
use Rattle.region_cutter.specs.links.GraphSearch.{Searched, left}
use Rattle.region_cutter.specs.links.CoveredReads.{AreFound}
use Rattle.region_cutter.specs.links.RemovalPaths.{ComesBack, ExposesOver, IsExposedBefore}
use Rattle.region_cutter.proofs.local.is_exposed_before.Given as goal

abbrev pub invariant-loop-number : goal.invariant-loop-number
invariant-loop-number l =
    Searched (ComesBack (graph_of l.graph) (boundaries_of l.cuts) None) (ExposesOver (graph_of l.graph) (boundaries_of l.cuts) l.writes)
    (ComesBack (graph_of l.graph) (boundaries_of l.cuts) None l.node)
    (IsExposedBefore (graph_of l.graph) (boundaries_of l.cuts) l.writes l.node) l.search.seen.items l.search.waiting.items
    × (length l.search.seen.items ≡ length l.graph.nodes.items)
    × AreFound (graph_of l.graph) (boundaries_of l.cuts) l.found.items

abbrev pub decreases-loop-number : goal.decreases-loop-number
decreases-loop-number l = left l.search.seen.items l.search.waiting.items
