use Rattle.std.proofs.Common.{◌≡◌, length}
use Rattle.flow_graph.specs.Nodes.{graph_of}
use Rattle.flow_graph.specs.IdempotentCuts.{boundaries_of}
use Rattle.region_cutter.specs.links.GraphSearch.{left}
use Rattle.region_cutter.proofs.TrialParts.{IsCollecting}
use Rattle.region_cutter.proofs.local.ahead_of.Given as goal

abbrev pub invariant-loop-number : goal.invariant-loop-number
invariant-loop-number l =
    IsCollecting (graph_of l.graph) (boundaries_of l.cuts) l.from l.search.seen.items l.search.waiting.items l.writes.items
    × (length l.search.seen.items ≡ length l.graph.nodes.items)

abbrev pub decreases-loop-number : goal.decreases-loop-number
decreases-loop-number l = left l.search.seen.items l.search.waiting.items
