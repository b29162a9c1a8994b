use Rattle.std.proofs.Common.{◌≡◌, length, Some}
use Rattle.flow_graph.specs.Nodes.{graph_of}
use Rattle.flow_graph.specs.IdempotentCuts.{BeginsRegion, boundaries_of}
use Rattle.region_cutter.specs.links.GraphSearch.{Searched, left}
use Rattle.region_cutter.specs.links.RemovalPaths.{ComesBack, IsUnwritten}
use Rattle.region_cutter.proofs.local.is_unwritten.Given as goal

abbrev pub invariant-loop-number : goal.invariant-loop-number
invariant-loop-number l =
    Searched (ComesBack (graph_of l.graph) (boundaries_of l.cuts) (Some l.element)) (BeginsRegion (graph_of l.graph) (boundaries_of l.cuts)) (λ n. l.node ≡ n)
    (IsUnwritten (graph_of l.graph) (boundaries_of l.cuts) l.element l.node) l.search.seen.items l.search.waiting.items
    × (length l.search.seen.items ≡ length l.graph.nodes.items)

abbrev pub decreases-loop-number : goal.decreases-loop-number
decreases-loop-number l = left l.search.seen.items l.search.waiting.items
