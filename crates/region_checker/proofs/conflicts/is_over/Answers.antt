use Rattle.std.proofs.Common.{◌↔◌, Bool, length, ap, sym, subst, arith}
use Rattle.std.specs.Prelude.{IsTrue}
use Rattle.flow_graph.specs.Nodes.{graph_of, node_of}
use Rattle.flow_graph.specs.Liveness.{NodeAt}
use Rattle.region_checker.specs.links.ConflictSearch.{WritesOver}
use Rattle.region_checker.proofs.Nodes.{found_at, over_at, node_in}
use Rattle.region_checker.proofs.conflicts.is_over.Goals as goal

pub returns-in-Some : goal.returns-in-Some
returns-in-Some c =
    let g = graph_of c.args.graph.now in
    let n = c.args.number in
    let x = c.in-Some.node.now in
    let found = c.in-Some.ensures.lookup in
    let at : NodeAt g n (node_of x) = found_at c.args.graph.now.nodes.items c.deref.result.now n x c.deref.ensures.value found.3.0 found.1 in
    subst (λ (t : Bool). IsTrue t ↔ WritesOver g c.args.location n) (sym c.writes_over.ensures) (over_at g n c.args.location (node_of x) at)

pub returns-in-None : goal.returns-in-None
returns-in-None c = (
  λ t. absurd (cc),
  λ w. absurd (omega (arith, node_in c.args.graph.now c.args.number w.is w.at, c.in-None.ensures.lookup.3, ap length c.deref.ensures.value)),
)
