use Rattle.flow_graph.specs.Nodes.{graph_of}
use Rattle.flow_graph.specs.Colours.{colouring_of}
use Rattle.reg_colour.specs.links.LeastClash.{IsLeastOf}
use Rattle.reg_colour.proofs.Clashes.{ClashBelow}
use Rattle.reg_colour.proofs.checking.check_colours.Given as goal

abbrev pub invariant-loop-thread : goal.invariant-loop-thread
invariant-loop-thread l = IsLeastOf (ClashBelow (graph_of l.graph) (colouring_of l.colours) l.thread) l.found
