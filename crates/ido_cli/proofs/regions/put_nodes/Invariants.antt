use Rattle.std.proofs.Common.{◌≡◌, ◌++◌, ◌-◌}
use Rattle.flow_graph.specs.IdempotentCuts.{boundaries_of}
use Rattle.flow_graph.specs.Nodes.{graph_of}
use Rattle.ido_cli.specs.Regions.{lines_from, node_lines}
use Rattle.ido_cli.proofs.regions.put_nodes.Given as goal

abbrev pub invariant-loop-number : goal.invariant-loop-number
invariant-loop-number l = record {
  end : l.number-end ≡ l.fn.part.end;
  so_far : l.out.items ++ lines_from l.text (graph_of l.graph) (boundaries_of l.cuts) l.number (l.fn.part.end - l.number)
      ≡ l.fn.out.items ++ node_lines l.text (graph_of l.graph) (boundaries_of l.cuts) l.fn.part;
}
