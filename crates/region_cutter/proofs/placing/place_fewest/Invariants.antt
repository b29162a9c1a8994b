use Rattle.flow_graph.specs.Nodes.{graph_of}
use Rattle.flow_graph.specs.IdempotentCuts.{boundaries_of}
use Rattle.region_cutter.specs.links.FewBoundaries.{AreFewIn}
use Rattle.region_cutter.proofs.placing.place_fewest.Given as goal

abbrev pub invariant-loop-stretch : goal.invariant-loop-stretch
invariant-loop-stretch l = AreFewIn (graph_of l.graph) l.stretches l.stretch-index (boundaries_of l.cuts)
