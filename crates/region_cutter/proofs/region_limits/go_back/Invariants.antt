use Rattle.flow_graph.specs.Nodes.{graph_of}
use Rattle.region_cutter.proofs.RegionLimits.{GoesBack}
use Rattle.region_cutter.proofs.region_limits.go_back.Given as goal

abbrev pub invariant-loop-k : goal.invariant-loop-k
invariant-loop-k l = GoesBack (graph_of l.graph) l.number l.past l.k l.fn.tracks l.tracks
