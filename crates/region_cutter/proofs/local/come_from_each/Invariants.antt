use Rattle.flow_graph.specs.Nodes.{graph_of}
use Rattle.flow_graph.specs.IdempotentCuts.{boundaries_of}
use Rattle.region_cutter.specs.links.GraphSearch.{IsSearchStep}
use Rattle.region_cutter.specs.links.RemovalPaths.{ComesFromBelow}
use Rattle.region_cutter.proofs.local.come_from_each.Given as goal

abbrev pub invariant-loop-from : goal.invariant-loop-from
invariant-loop-from l = IsSearchStep (ComesFromBelow (graph_of l.graph) (boundaries_of l.cuts) l.past l.sources l.from-index)
    l.initial.search.seen.items l.initial.search.waiting.items l.search.seen.items l.search.waiting.items
