use Rattle.std.proofs.Common.{[], length, replicate, false}
use Rattle.flow_graph.specs.Nodes.{graph_of}
use Rattle.region_cutter.specs.links.GraphSearch.{IsSearchStep}
use Rattle.region_cutter.specs.links.NodeMarks.{IsAfterLockBelow}
use Rattle.region_cutter.proofs.marks.begun.Given as goal

abbrev pub invariant-loop-number : goal.invariant-loop-number
invariant-loop-number l = IsSearchStep (IsAfterLockBelow (graph_of l.graph) l.number)
    (replicate (length l.graph.nodes.items) false) [] l.search.seen.items l.search.waiting.items
