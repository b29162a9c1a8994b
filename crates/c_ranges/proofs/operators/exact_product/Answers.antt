-- The hull of two hulls.
use Rattle.std.proofs.Common.{◌∙◌, rules}
use Rattle.std.specs.Prelude.{◌*ℤ◌, FitsSigned}
use Rattle.std.specs.Int.{w128}
use Rattle.std.proofs.lemmas.Int.{to_z-of_z}
use Rattle.c_tree.specs.Ranges.{only, hull}
use Rattle.c_ranges.proofs.operators.exact_product.Goals as goal

pub returns : goal.returns
returns c =
    let x = c.args.x in
    let y = c.args.y in
    let l : FitsSigned w128 x.lo = search rules in
    let h : FitsSigned w128 x.hi = search rules in
    let lo = to_z-of_z w128 x.lo l in
    let hi = to_z-of_z w128 x.hi h in
    c.hull.ensures ∙ (λ i. hull (c.in_ok-low.ensures i) (c.in_ok-high.ensures i))
    ∙ (λ i. hull (hull (only (lo i *ℤ y.lo)) (only (lo i *ℤ y.hi))) (hull (only (hi i *ℤ y.lo)) (only (hi i *ℤ y.hi))))
