use Rattle.std.proofs.Common.{arith, refl, sym, ◌∙◌}
use Rattle.flow_graph.specs.IdempotentCuts.{boundaries_of}
use Rattle.ido_cli.specs.Regions.{boundaries_inside}
use Rattle.ido_cli.proofs.FewestBoundaries.{none_more, one_more}
use Rattle.ido_cli.proofs.regions.boundaries_inside.Goals as goal
use Rattle.ido_cli.proofs.regions.boundaries_inside.Goals.{then-has_before, else-has_before}

pub loop-node-preserved : goal.loop-node-preserved
loop-node-preserved c =
    let b = boundaries_of c.args.cuts.now in
    let node = c.loop-node.node in
    let past = c.args.stretch.past in
    let inv = c.loop-node.invariant in
    let all = boundaries_inside b c.args.stretch in
    elim c.if-has_before.branch [
      | then-has_before w ↦
          let has = sym c.has_before.ensures ∙ w.if-has_before.true in
          record {
            end = refl;
            few = omega (arith, w.inside-is, inv.few);
            so_far = omega (arith, w.inside-is, one_more b node past c.loop-node.inside all c.loop-node-test.true has inv.so_far);
          }
      | else-has_before w ↦
          let has = sym c.has_before.ensures ∙ w.if-has_before.false in
          record {
            end = refl;
            few = omega (arith, w.inside-is, inv.few);
            so_far = omega (arith, w.inside-is, none_more b node past c.loop-node.inside all c.loop-node-test.true has inv.so_far);
          }
    ]
