use Rattle.std.proofs.Common.{◌≡◌, ◌+◌, ◌-◌, ◌≤◌}
use Rattle.flow_graph.specs.IdempotentCuts.{boundaries_of}
use Rattle.ido_cli.specs.Regions.{boundaries_among, boundaries_inside}
use Rattle.ido_cli.proofs.regions.boundaries_inside.Given as goal

abbrev pub invariant-loop-node : goal.invariant-loop-node
invariant-loop-node l = record {
  end : l.node-end ≡ l.fn.stretch.past;
  few : l.inside ≤ l.node;
  so_far : l.inside + boundaries_among (boundaries_of l.cuts) l.node (l.fn.stretch.past - l.node) ≡ boundaries_inside (boundaries_of l.cuts) l.fn.stretch;
}
