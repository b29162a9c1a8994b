use Rattle.std.proofs.Common.{◌≡◌, ◌<◌, Some, length, refl, ◌∙◌, arith}
use Rattle.std.specs.Prelude.{slice_get}
use Rattle.std.proofs.lemmas.Option.{slice_get_read}
use Rattle.flow_live.proofs.LivenessFixpoint.{again_grown, again_kept}
use Rattle.flow_live.proofs.passes.add_forwards.Goals as goal
use Rattle.flow_live.proofs.passes.add_forwards.Goals.{then-add_coming, else-add_coming}

pub loop-number-preserved : goal.loop-number-preserved
loop-number-preserved c =
    let nodes = c.args.nodes.now in
    let before = c.args.sets.now in
    let now = c.loop-number.sets in
    let after = c.add_coming.new.sets in
    let n = c.loop-number.number in
    let x = c.index-nodes-number.result in
    let lt : n < length nodes = omega (arith, c.loop-number-test.true) in
    let at : slice_get nodes n ≡ Some x = slice_get_read nodes (length nodes) n x refl lt c.index-nodes-number.is in
    let long = c.add_coming.ensures.long ∙ c.loop-number.invariant.1 in
    elim c.if-add_coming.branch [
      | then-add_coming w ↦ rw w.grows-is (
        again_grown nodes (length nodes) n x before now after c.loop-number.grows c.add_coming.result at c.loop-number.invariant.0 c.add_coming.ensures.adds
            w.if-add_coming.true,
        long,
      )
      | else-add_coming w ↦ rw w.grows-is (
        again_kept nodes (length nodes) n x before now after c.loop-number.grows c.add_coming.result at c.loop-number.invariant.0 c.add_coming.ensures.adds
            w.if-add_coming.false,
        long,
      )
    ]
