-- Numbers from 0 up, shifted right, are exact, and the kind holds them.
use Rattle.std.proofs.Common.{◌≡◌, ◌∙◌, sym, true, ◌&&◌, cond, rules}
use Rattle.std.specs.Prelude.{FitsSigned}
use Rattle.std.specs.Int.{w128, int_shr}
use Rattle.std.specs.Ordering.{int_eq}
use Rattle.std.proofs.lemmas.Int.{to_z-of_z}
use Rattle.ido_ints.specs.Kinds.{promoted}
use Rattle.ido_ints.specs.Operators.{places}
use Rattle.ido_ints.proofs.Public.{right_exact}
use Rattle.c_tree.specs.Ranges.{interval, full, fitted, from_zero_up}
use Rattle.c_ranges.specs.Bounds.{interval_of}
use Rattle.c_ranges.proofs.IntervalsOfKinds.{from_zero_up-true}
use Rattle.c_ranges.proofs.HeldRanges.{HeldBy-Ends, HeldBy_same, int_shr_range}
use Rattle.c_ranges.proofs.operators.shifted_right.Goals as goal

pub returns-then-is_from_zero_up-clause-range : goal.returns-then-is_from_zero_up-clause-range
returns-then-is_from_zero_up-clause-range c =
    let x = HeldBy-Ends _ _ c.fitted-x.ensures.held in
    let r = c.fitted-x.result in
    let count = c.args.count in
    let p : true ≡ int_eq count.lo count.hi = sym c.if-is_value.true ∙ c.is_value.ensures in
    let q : true ≡ from_zero_up (interval_of r) = sym c.if-is_from_zero_up.true ∙ c.is_from_zero_up.ensures in
    let fits : FitsSigned w128 count.lo = search rules in
    let by : c.places-places.result ≡ places (promoted c.args.left.kind) count.lo =
    c.places-places.ensures.value ∙ (λ i. places (c.promote-kind.ensures i) (to_z-of_z w128 count.lo fits i)) in
    let n = c.places-places.result in
    let same : interval_of r ≡ fitted (promoted c.args.left.kind) (interval_of c.args.left.range) =
    c.fitted-x.ensures.value ∙ (λ i. fitted (c.promote-kind.ensures i) (interval_of c.args.left.range)) in
    (λ i. cond (p i && q i) (interval (right_exact _ n x.lo i) (right_exact _ n x.hi i)) (full (promoted c.args.left.kind)))
    ∙ (λ i. let v = same i in
    cond (int_eq count.lo count.hi && from_zero_up v) (interval (int_shr v.lo (by i)) (int_shr v.hi (by i))) (full (promoted c.args.left.kind)))

pub returns-then-is_from_zero_up-clause-held : goal.returns-then-is_from_zero_up-clause-held
returns-then-is_from_zero_up-clause-held c =
    let x = HeldBy-Ends _ _ c.fitted-x.ensures.held in
    let r = c.fitted-x.result in
    let n = c.places-places.result in
    let q : true ≡ from_zero_up (interval_of r) = sym c.if-is_from_zero_up.true ∙ c.is_from_zero_up.ensures in
    HeldBy_same _ _ _ _ _ (right_exact _ n x.lo) (right_exact _ n x.hi)
    (int_shr_range c.promote-kind.result r.lo r.hi n (from_zero_up-true (interval_of r) q) x.ordered c.fitted-x.ensures.held.to_greatest)
