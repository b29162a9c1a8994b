-- An end that is not negative bounds what `&` gives.
use Rattle.std.proofs.Common.{◌≡◌, ◌∙◌, refl, true, false, cond, arith, rules}
use Rattle.std.specs.Prelude.{pos, FitsSigned}
use Rattle.std.specs.Int.{w128}
use Rattle.std.proofs.lemmas.Int.{ints, to_z-of_z}
use Rattle.c_tree.specs.Ranges.{interval, full, lesser, from_zero_up}
use Rattle.c_ranges.specs.Bounds.{interval_of}
use Rattle.c_ranges.proofs.ExactArithmetic.{bounded_exact}
use Rattle.c_ranges.proofs.IntervalsOfKinds.{from_zero_up-true}
use Rattle.c_ranges.proofs.HeldRanges.{HeldBy-Ends, HeldBy_same, lesser_range}
use Rattle.c_ranges.proofs.operators.bit_and.Goals as goal

pub returns-in-true-true-clause-value : goal.returns-in-true-true-clause-value
returns-in-true-true-clause-value c =
    let x = HeldBy-Ends _ _ c.requires.x in
    let y = HeldBy-Ends _ _ c.requires.y in
    let p : true ≡ from_zero_up (interval_of c.args.x) = c.in-true-true.ensures in
    let q : true ≡ from_zero_up (interval_of c.args.y) = c.in-true-true.ensures' in
    let fits : FitsSigned w128 c.lesser.result = search rules in
    let hi = to_z-of_z w128 c.lesser.result fits ∙ c.lesser.ensures ∙ (λ i. lesser (bounded_exact _ x.hi i) (bounded_exact _ y.hi i)) in
    (λ i. cond (p i) (cond (q i) (interval (pos 0) (hi i)) (interval (pos 0) c.args.x.hi)) (cond (q i) (interval (pos 0) c.args.y.hi) (full c.args.kind)))

pub returns-in-true-true-clause-held : goal.returns-in-true-true-clause-held
returns-in-true-true-clause-held c =
    let x = HeldBy-Ends _ _ c.requires.x in
    let y = HeldBy-Ends _ _ c.requires.y in
    let p : true ≡ from_zero_up (interval_of c.args.x) = c.in-true-true.ensures in
    let q : true ≡ from_zero_up (interval_of c.args.y) = c.in-true-true.ensures' in
    let low = from_zero_up-true (interval_of c.args.x) p in
    let low' = from_zero_up-true (interval_of c.args.y) q in
    let fits : FitsSigned w128 c.lesser.result = search rules in
    let hi = to_z-of_z w128 c.lesser.result fits ∙ c.lesser.ensures ∙ (λ i. lesser (bounded_exact _ x.hi i) (bounded_exact _ y.hi i)) in
    HeldBy_same _ _ _ _ _ refl hi
    (lesser_range c.args.kind c.args.x.hi c.args.y.hi (omega (arith, ints, low, x.ordered)) (omega (arith, ints, low', y.ordered)) c.requires.x.to_greatest)

pub returns-in-true-false-clause-value : goal.returns-in-true-false-clause-value
returns-in-true-false-clause-value c =
    let x = HeldBy-Ends _ _ c.requires.x in
    let p : true ≡ from_zero_up (interval_of c.args.x) = c.in-true-false.ensures in
    let q : false ≡ from_zero_up (interval_of c.args.y) = c.in-true-false.ensures' in
    (λ i. cond (p i) (cond (q i) (interval (pos 0) (lesser c.args.x.hi c.args.y.hi)) (interval (pos 0) (bounded_exact _ x.hi i)))
    (cond (q i) (interval (pos 0) c.args.y.hi) (full c.args.kind)))

pub returns-in-false-true-clause-value : goal.returns-in-false-true-clause-value
returns-in-false-true-clause-value c =
    let y = HeldBy-Ends _ _ c.requires.y in
    let p : false ≡ from_zero_up (interval_of c.args.x) = c.in-false-true.ensures in
    let q : true ≡ from_zero_up (interval_of c.args.y) = c.in-false-true.ensures' in
    (λ i. cond (p i) (cond (q i) (interval (pos 0) (lesser c.args.x.hi c.args.y.hi)) (interval (pos 0) c.args.x.hi))
    (cond (q i) (interval (pos 0) (bounded_exact _ y.hi i)) (full c.args.kind)))

pub returns-in-false-false-clause-value : goal.returns-in-false-false-clause-value
returns-in-false-false-clause-value c =
    let p : false ≡ from_zero_up (interval_of c.args.x) = c.in-false-false.ensures in
    let q : false ≡ from_zero_up (interval_of c.args.y) = c.in-false-false.ensures' in
    c.full.ensures.value ∙ (λ i. cond (p i) (cond (q i) (interval (pos 0) (lesser c.args.x.hi c.args.y.hi)) (interval (pos 0) c.args.x.hi))
    (cond (q i) (interval (pos 0) c.args.y.hi) (full c.args.kind)))
