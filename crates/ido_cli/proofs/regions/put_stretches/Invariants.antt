use Rattle.std.proofs.Common.{◌≡◌, ◌++◌, length}
use Rattle.flow_graph.specs.IdempotentCuts.{boundaries_of}
use Rattle.ido_cli.specs.Regions.{least_lines}
use Rattle.ido_cli.specs.links.Regions.{HaveNodes}
use Rattle.ido_cli.proofs.regions.put_stretches.Given as goal

abbrev pub invariant-loop-rest : goal.invariant-loop-rest
invariant-loop-rest l = record {
  nodes : HaveNodes l.rest;
  so_far : l.out.items ++ least_lines (boundaries_of l.cuts) l.held l.thread l.part l.rest
      ≡ l.fn.out.items ++ least_lines (boundaries_of l.cuts) l.held l.thread l.part l.stretches;
}

abbrev pub decreases-loop-rest : goal.decreases-loop-rest
decreases-loop-rest l = length l.rest
