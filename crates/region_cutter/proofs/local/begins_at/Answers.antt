use Rattle.std.proofs.Common.{◌↔◌, ◌||◌, Bool, Some, true, List, ◌≡◌, subst, arith}
use Rattle.std.specs.Prelude.{IsTrue, slice_get}
use Rattle.std.proofs.lemmas.List.{length-map}
use Rattle.flow_graph.specs.Nodes.{graph_of, node_of}
use Rattle.flow_graph.specs.IdempotentCuts.{BeginsRegion, boundaries_of}
use Rattle.region_cutter.proofs.Edges.{or_then, or_else}
use Rattle.region_cutter.proofs.TrialParts.{begins_is}
use Rattle.region_cutter.proofs.local.begins_at.Goals as goal
use Rattle.region_cutter.proofs.local.begins_at.Goals.{After-stands-after}

asked : (c : After-stands-after) →
    IsTrue (c.stands-before.result || c.stands-after.result) ↔ BeginsRegion (graph_of c.args.graph.now) (boundaries_of c.args.cuts.now) c.args.number
asked c =
    let n = c.args.number in
    begins_is (graph_of c.args.graph.now) (boundaries_of c.args.cuts.now) c.args.marks.now.begun.items n c.stands-before.result c.stands-after.result
    (omega (arith, c.requires.exists, length-map c.args.graph.now.nodes.items node_of)) c.requires.marks.begun c.requires.locks
    (subst (λ (xs : List Bool). IsTrue c.stands-before.result ↔ (slice_get xs n ≡ Some true)) c.deref.ensures.value c.stands-before.ensures)
    (subst (λ (xs : List Bool). IsTrue c.stands-after.result ↔ (slice_get xs n ≡ Some true)) c.deref-2.ensures.value c.stands-after.ensures)

pub returns-then-before : goal.returns-then-before
returns-then-before c =
    or_then c.stands-before.result c.stands-after.result
    (BeginsRegion (graph_of c.args.graph.now) (boundaries_of c.args.cuts.now) c.args.number) c.if-before.true
    (asked (goal.at.returns-then-before c).After-stands-after)

pub returns-else-before : goal.returns-else-before
returns-else-before c =
    or_else c.stands-before.result c.stands-after.result
    (BeginsRegion (graph_of c.args.graph.now) (boundaries_of c.args.cuts.now) c.args.number) c.if-before.false
    (asked (goal.at.returns-else-before c).After-stands-after)
