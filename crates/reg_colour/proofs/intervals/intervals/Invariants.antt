use Rattle.std.proofs.Common.{◌≡◌, length}
use Rattle.flow_graph.specs.Nodes.{graph_of}
use Rattle.reg_colour.specs.links.Intervals.{AreIntervals}
use Rattle.reg_colour.proofs.intervals.intervals.Given as goal

abbrev pub invariant-loop-local : goal.invariant-loop-local
invariant-loop-local l = (length l.all.items ≡ l.local) × AreIntervals (graph_of l.graph) l.part l.all.items
