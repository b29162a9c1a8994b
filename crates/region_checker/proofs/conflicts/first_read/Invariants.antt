use Rattle.std.proofs.Common.{ℕ, ◌<◌}
use Rattle.flow_graph.specs.Nodes.{graph_of}
use Rattle.region_checker.specs.links.ConflictSearch.{ForRegions, HitsAny}
use Rattle.region_checker.proofs.conflicts.first_read.Given as goal

abbrev pub invariant-loop-read : goal.invariant-loop-read
invariant-loop-read l = ForRegions (graph_of l.graph) l.regions (λ b. (n : ℕ) → n < l.read → ¬ (HitsAny (graph_of l.graph) b n l.store))
