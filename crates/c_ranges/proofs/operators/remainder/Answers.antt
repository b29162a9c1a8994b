-- The ends of remainders are exact, and the kind holds them: it has negative numbers where the dividend may be one.
use Rattle.std.proofs.Common.{◌≡◌, ◌∙◌, refl, sym, true, false, cond, arith, rules}
use Rattle.std.specs.Prelude.{pos, neg_ℤ, ◌-ℤ◌, ◌<ℤ◌, FitsSigned}
use Rattle.std.specs.Int.{w128}
use Rattle.std.proofs.lemmas.Int.{ints, to_z-of_z}
use Rattle.ido_ints.specs.Kinds.{least_of}
use Rattle.c_tree.specs.Ranges.{interval, full, lesser, from_zero_up, is_positive_value}
use Rattle.c_ranges.specs.Bounds.{interval_of}
use Rattle.c_ranges.proofs.ExactArithmetic.{bounded_exact, less_one_exact, negative_less_one_exact}
use Rattle.c_ranges.proofs.IntervalsOfKinds.{from_zero_up-true, from_zero_up-false, is_positive_value-true}
use Rattle.c_ranges.proofs.HeldRanges.{HeldBy-Ends, HeldBy_same, lesser_range, symmetric_range}
use Rattle.c_ranges.proofs.operators.remainder.Goals as goal

pub returns-then-not-is_positive_value-clause-value : goal.returns-then-not-is_positive_value-clause-value
returns-then-not-is_positive_value-clause-value c =
    let x = interval_of c.args.x in
    let y = interval_of c.args.y in
    let p : false ≡ is_positive_value y = sym c.if-not-is_positive_value.true ∙ c.is_positive_value.ensures in
    let most = y.lo -ℤ pos 1 in
    c.full.ensures.value ∙ (λ i. cond (p i) (cond (from_zero_up x) (interval (pos 0) (lesser x.hi most)) (interval (neg_ℤ most) most)) (full c.args.kind))

pub overflow_sub-result : goal.overflow_sub-result
overflow_sub-result c =
    let y = HeldBy-Ends _ _ c.requires.y in
    omega (arith, ints, y.lo.at_least, y.lo.below)

pub returns-then-is_from_zero_up-clause-value : goal.returns-then-is_from_zero_up-clause-value
returns-then-is_from_zero_up-clause-value c =
    let x = HeldBy-Ends _ _ c.requires.x in
    let y = HeldBy-Ends _ _ c.requires.y in
    let p : true ≡ is_positive_value (interval_of c.args.y) = sym c.if-not-is_positive_value.false ∙ c.is_positive_value.ensures in
    let q : true ≡ from_zero_up (interval_of c.args.x) = sym c.if-is_from_zero_up.true ∙ c.is_from_zero_up.ensures in
    let most = c.args.y.lo -ℤ pos 1 in
    let fits : FitsSigned w128 c.lesser.result = search rules in
    let hi = to_z-of_z w128 c.lesser.result fits ∙ c.lesser.ensures ∙ (λ i. lesser (bounded_exact _ x.hi i) (less_one_exact _ y.lo i)) in
    (λ i. cond (p i) (cond (q i) (interval (pos 0) (hi i)) (interval (neg_ℤ most) most)) (full c.args.kind))

pub returns-then-is_from_zero_up-clause-held : goal.returns-then-is_from_zero_up-clause-held
returns-then-is_from_zero_up-clause-held c =
    let x = HeldBy-Ends _ _ c.requires.x in
    let y = HeldBy-Ends _ _ c.requires.y in
    let p : true ≡ is_positive_value (interval_of c.args.y) = sym c.if-not-is_positive_value.false ∙ c.is_positive_value.ensures in
    let q : true ≡ from_zero_up (interval_of c.args.x) = sym c.if-is_from_zero_up.true ∙ c.is_from_zero_up.ensures in
    let one = is_positive_value-true (interval_of c.args.y) p in
    let low = from_zero_up-true (interval_of c.args.x) q in
    let fits : FitsSigned w128 c.lesser.result = search rules in
    let hi = to_z-of_z w128 c.lesser.result fits ∙ c.lesser.ensures ∙ (λ i. lesser (bounded_exact _ x.hi i) (less_one_exact _ y.lo i)) in
    HeldBy_same _ _ _ _ _ refl hi
    (lesser_range c.args.kind c.args.x.hi (c.args.y.lo -ℤ pos 1) (omega (arith, ints, low, x.ordered)) (omega (arith, ints, one.positive))
    c.requires.x.to_greatest)

pub returns-else-is_from_zero_up-clause-value : goal.returns-else-is_from_zero_up-clause-value
returns-else-is_from_zero_up-clause-value c =
    let y = HeldBy-Ends _ _ c.requires.y in
    let p : true ≡ is_positive_value (interval_of c.args.y) = sym c.if-not-is_positive_value.false ∙ c.is_positive_value.ensures in
    let q : false ≡ from_zero_up (interval_of c.args.x) = sym c.if-is_from_zero_up.false ∙ c.is_from_zero_up.ensures in
    let most = c.args.y.lo -ℤ pos 1 in
    (λ i. cond (p i) (cond (q i) (interval (pos 0) (lesser c.args.x.hi most)) (interval (negative_less_one_exact _ y.lo i) (less_one_exact _ y.lo i)))
    (full c.args.kind))

pub returns-else-is_from_zero_up-clause-held : goal.returns-else-is_from_zero_up-clause-held
returns-else-is_from_zero_up-clause-held c =
    let y = HeldBy-Ends _ _ c.requires.y in
    let p : true ≡ is_positive_value (interval_of c.args.y) = sym c.if-not-is_positive_value.false ∙ c.is_positive_value.ensures in
    let q : false ≡ from_zero_up (interval_of c.args.x) = sym c.if-is_from_zero_up.false ∙ c.is_from_zero_up.ensures in
    let one = is_positive_value-true (interval_of c.args.y) p in
    let low = from_zero_up-false (interval_of c.args.x) q in
    let least : least_of c.args.kind <ℤ pos 0 = omega (arith, ints, low, c.requires.x.from_least) in
    HeldBy_same _ _ _ _ _ (negative_less_one_exact _ y.lo) (less_one_exact _ y.lo)
    (symmetric_range c.args.kind c.args.y.lo least one.positive (omega (arith, ints, c.requires.y.ordered, c.requires.y.to_greatest)))
