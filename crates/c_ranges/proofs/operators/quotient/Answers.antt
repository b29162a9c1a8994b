-- Quotients of numbers from 0 up by a positive number are exact, and the kind holds them.
use Rattle.std.proofs.Common.{◌≡◌, ◌∙◌, sym, true, false, ◌&&◌, cond}
use Rattle.std.specs.Prelude.{int_div}
use Rattle.c_tree.specs.Ranges.{interval, full, from_zero_up, is_positive_value}
use Rattle.c_ranges.specs.Bounds.{interval_of}
use Rattle.c_ranges.proofs.ExactArithmetic.{quotient_exact}
use Rattle.c_ranges.proofs.IntervalsOfKinds.{from_zero_up-true, is_positive_value-true}
use Rattle.c_ranges.proofs.HeldRanges.{HeldBy-Ends, HeldBy_same, int_div_range}
use Rattle.c_ranges.proofs.operators.quotient.Goals as goal
use Rattle.c_ranges.proofs.operators.quotient.Goals.{else-is_positive_value-via-then-is_positive_value+else-is_from_zero_up}
use Rattle.c_ranges.proofs.operators.quotient.Goals.{else-is_positive_value-via-else-is_positive_value}

pub returns-then-is_from_zero_up-clause-value : goal.returns-then-is_from_zero_up-clause-value
returns-then-is_from_zero_up-clause-value c =
    let x = HeldBy-Ends _ _ c.requires.x in
    let y = HeldBy-Ends _ _ c.requires.y in
    let p : true ≡ is_positive_value (interval_of c.args.y) = sym c.if-is_positive_value.true ∙ c.is_positive_value.ensures in
    let q : true ≡ from_zero_up (interval_of c.args.x) = sym c.if-is_from_zero_up.true ∙ c.is_from_zero_up.ensures in
    let one = is_positive_value-true (interval_of c.args.y) p in
    (λ i. cond (p i && q i) (interval (quotient_exact _ _ x.lo y.lo one.positive i) (quotient_exact _ _ x.hi y.lo one.positive i)) (full c.args.kind))

pub returns-then-is_from_zero_up-clause-held : goal.returns-then-is_from_zero_up-clause-held
returns-then-is_from_zero_up-clause-held c =
    let x = HeldBy-Ends _ _ c.requires.x in
    let y = HeldBy-Ends _ _ c.requires.y in
    let p : true ≡ is_positive_value (interval_of c.args.y) = sym c.if-is_positive_value.true ∙ c.is_positive_value.ensures in
    let q : true ≡ from_zero_up (interval_of c.args.x) = sym c.if-is_from_zero_up.true ∙ c.is_from_zero_up.ensures in
    let one = is_positive_value-true (interval_of c.args.y) p in
    HeldBy_same _ _ _ _ _ (quotient_exact _ _ x.lo y.lo one.positive) (quotient_exact _ _ x.hi y.lo one.positive)
    (int_div_range c.args.kind c.args.x.lo c.args.x.hi c.args.y.lo (from_zero_up-true (interval_of c.args.x) q) x.ordered c.requires.x.to_greatest one.positive)

pub returns-else-is_positive_value-clause-value : goal.returns-else-is_positive_value-clause-value
returns-else-is_positive_value-clause-value c =
    let x = interval_of c.args.x in
    let y = interval_of c.args.y in
    let all = full c.args.kind in
    elim c.else-is_positive_value.branch [
      | else-is_positive_value-via-then-is_positive_value+else-is_from_zero_up w ↦
          let p : true ≡ is_positive_value y = sym w.if-is_positive_value.true ∙ c.is_positive_value.ensures in
          let q : false ≡ from_zero_up x = sym w.if-is_from_zero_up.false ∙ w.is_from_zero_up.ensures in
          c.full.ensures.value ∙ (λ i. cond (p i && q i) (interval (int_div x.lo y.lo) (int_div x.hi y.lo)) all)
      | else-is_positive_value-via-else-is_positive_value w ↦
          let p : false ≡ is_positive_value y = sym w.if-is_positive_value.false ∙ c.is_positive_value.ensures in
          c.full.ensures.value ∙ (λ i. cond (p i && from_zero_up x) (interval (int_div x.lo y.lo) (int_div x.hi y.lo)) all)
    ]
