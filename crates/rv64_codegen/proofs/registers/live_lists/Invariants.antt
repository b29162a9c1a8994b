use Rattle.flow_graph.specs.Nodes.{graph_of}
use Rattle.rv64_codegen.specs.links.LiveRegisters.{AreLists}
use Rattle.rv64_codegen.proofs.registers.live_lists.Given as goal

abbrev pub invariant-loop-node : goal.invariant-loop-node
invariant-loop-node l = AreLists (graph_of l.plan.graph.now) l.homes l.plan.live.now l.fn.part.first l.node l.lists.items
