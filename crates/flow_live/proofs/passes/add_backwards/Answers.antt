use Rattle.std.proofs.Common.{◌≡◌, ◌+◌, ◌-◌, ◌<◌, ℕ, Some, length, refl, subst, ◌∙◌, arith}
use Rattle.std.specs.Prelude.{slice_get}
use Rattle.std.proofs.lemmas.Option.{slice_get_read}
use Rattle.flow_live.specs.links.Passes.{IsLivenessPass}
use Rattle.flow_live.proofs.LivenessFixpoint.{pass_grown, pass_kept}
use Rattle.flow_live.proofs.passes.add_backwards.Goals as goal

pub loop-number-preserved-then-add_coming : goal.loop-number-preserved-then-add_coming
loop-number-preserved-then-add_coming c =
    let nodes = c.args.nodes.now in
    let n = c.loop-number.number - 1 in
    let x = c.index-nodes-number.result in
    let lt : n < length nodes = omega (arith, c.loop-number-test.true) in
    let back : c.loop-number.number ≡ n + 1 = omega (arith, c.loop-number-test.true) in
    let at : slice_get nodes n ≡ Some x = slice_get_read nodes (length nodes) n x refl lt c.index-nodes-number.is in (
      pass_grown nodes n x c.args.sets.now c.loop-number.sets c.add_coming.new.sets c.loop-number.grows c.add_coming.result at
          (subst (λ (k : ℕ). IsLivenessPass nodes k c.args.sets.now c.loop-number.sets c.loop-number.grows) back c.loop-number.invariant.0)
          c.add_coming.ensures.adds
          c.if-add_coming.true,
      c.add_coming.ensures.long ∙ c.loop-number.invariant.1,
    )

pub loop-number-preserved : goal.loop-number-preserved
loop-number-preserved c =
    let nodes = c.args.nodes.now in
    let n = c.loop-number.number - 1 in
    let x = c.index-nodes-number.result in
    let lt : n < length nodes = omega (arith, c.loop-number-test.true) in
    let back : c.loop-number.number ≡ n + 1 = omega (arith, c.loop-number-test.true) in
    let at : slice_get nodes n ≡ Some x = slice_get_read nodes (length nodes) n x refl lt c.index-nodes-number.is in (
      pass_kept nodes n x c.args.sets.now c.loop-number.sets c.add_coming.new.sets c.loop-number.grows c.add_coming.result at
          (subst (λ (k : ℕ). IsLivenessPass nodes k c.args.sets.now c.loop-number.sets c.loop-number.grows) back c.loop-number.invariant.0)
          c.add_coming.ensures.adds
          c.if-add_coming.false,
      c.add_coming.ensures.long ∙ c.loop-number.invariant.1,
    )
