use Rattle.std.proofs.Common.{◌≡◌, ◌+◌, ◌++◌, ◌∷◌, ◌∙◌, [], List, ap, sym, subst, arith}
use Rattle.std.proofs.lemmas.List.{length-map}
use Rattle.flow_graph.specs.Nodes.{graph_of, node_of}
use Rattle.region_cutter.specs.declared.straight.Stretch.{Stretch}
use Rattle.std.proofs.Common.{Vec, Global}
use Rattle.region_cutter.specs.links.Stretches.{AreStretchesBelow}
use Rattle.region_cutter.proofs.StraightCode.{below_more, below_same, below_all}
use Rattle.region_cutter.proofs.straight.stretches.Goals as goal
use Rattle.region_cutter.proofs.straight.stretches.Goals.{in-Some+in_ok-push, in_default}

pub loop-first-preserved : goal.loop-first-preserved
loop-first-preserved c =
    let g = graph_of c.args.graph.now in
    let first = c.loop-first.first in
    let found = c.loop-first.found.items in
    elim c.match-stretch_at.branch [
      | in-Some+in_ok-push w ↦ (
          let is : c.match-stretch_at.found.items ≡ found ++ w.in-Some.stretch ∷ [] =
          ap (λ (v : Vec Stretch Global). v.items) w.found-is ∙ w.in_ok-push.ensures.items in
          subst (λ (xs : List Stretch). AreStretchesBelow g (first + 1) xs) (sym is)
          (below_more g first found w.in-Some.stretch c.stretch_at.result w.in-Some.is c.stretch_at.ensures c.loop-first.invariant))
      | in_default w ↦ (
          let is : c.match-stretch_at.found.items ≡ found = ap (λ (v : Vec Stretch Global). v.items) w.found-is in
          subst (λ (xs : List Stretch). AreStretchesBelow g (first + 1) xs) (sym is)
          (below_same g first found c.stretch_at.result w.in_default.is c.stretch_at.ensures c.loop-first.invariant))
    ]

pub returns : goal.returns
returns c =
    below_all (graph_of c.args.graph.now) c.loop-first.first c.loop-first.found.items
    (omega (arith, c.loop-first-test.false, c.len-first-end.ensures, c.args.graph.now.nodes.ok.0, length-map c.args.graph.now.nodes.items node_of))
    c.loop-first.invariant
