use Rattle.flow_graph.specs.Nodes.{graph_of}
use Rattle.reg_colour.specs.links.Threads.{ColouredTo, lists_of}
use Rattle.reg_colour.proofs.colouring.colour.Given as goal

abbrev pub invariant-loop-part : goal.invariant-loop-part
invariant-loop-part l = ColouredTo (graph_of l.graph) l.part-index (lists_of l.threads.items) l.crowd
