-- The quotient of the amounts, with the sign that the operands give it.
use Rattle.std.proofs.Common.{◌≡◌, ◌∙◌, ap}
use Rattle.std.specs.Prelude.{FitsSigned}
use Rattle.std.specs.Int.{w128}
use Rattle.std.proofs.lemmas.Int.{to_z-of_z}
use Rattle.ido_ints.specs.Operators.{is_zero, quotient}
use Rattle.ido_ints.specs.Reduction.{reduced}
use Rattle.ido_ints.specs.TypedNumbers.{Typed, typed, typed_reduced}
use Rattle.ido_ints.proofs.LowBits.{reduced-quotient_zero, reduced-quotient}
use Rattle.ido_ints.proofs.arithmetic.quotient.Goals as goal

pub returns : goal.returns
returns c =
    let f = c.ranges.x in
    let g = c.ranges.y in
    let k = c.args.range.kind in
    let v = simp to_z-of_z at c.converted-x.ensures in
    let w = simp to_z-of_z at c.converted-y.ensures in
    let x : c.converted-x.result.number ≡ reduced k c.args.x = ap (λ (t : Typed). t.number) v in
    let y : c.converted-y.result.number ≡ reduced k c.args.y = ap (λ (t : Typed). t.number) w in
    let h : FitsSigned w128 c.number.result = record { sfits = c.number.type_inv } in
    let n = simp to_z-of_z at c.is_zero.ensures in
    let zero : c.is_zero.result ≡ is_zero c.converted-y.result.number = n ∙ ap is_zero c.number.ensures.value in
    c.value-2.ensures ∙ ap (typed k) (reduced-quotient k c.converted-x.result.number c.converted-y.result.number c.amount.result c.amount-2.result
    c.with_sign.result c.is_negative.result c.is_negative-2.result c.is_zero.result c.amount.type_inv c.amount.ensures c.amount-2.ensures c.is_negative.ensures
    c.is_negative-2.ensures zero c.if-is_zero.false c.with_sign.ensures)
    ∙ (λ i. typed_reduced k (quotient (x i) (y i)))

pub returns-then-is_zero : goal.returns-then-is_zero
returns-then-is_zero c =
    let f = c.ranges.x in
    let g = c.ranges.y in
    let k = c.args.range.kind in
    let v = simp to_z-of_z at c.converted-x.ensures in
    let w = simp to_z-of_z at c.converted-y.ensures in
    let x : c.converted-x.result.number ≡ reduced k c.args.x = ap (λ (t : Typed). t.number) v in
    let y : c.converted-y.result.number ≡ reduced k c.args.y = ap (λ (t : Typed). t.number) w in
    let h : FitsSigned w128 c.number.result = record { sfits = c.number.type_inv } in
    let n = simp to_z-of_z at c.is_zero.ensures in
    let zero : c.is_zero.result ≡ is_zero c.converted-y.result.number = n ∙ ap is_zero c.number.ensures.value in
    c.value.ensures ∙ ap (typed k) (reduced-quotient_zero k c.converted-x.result.number c.converted-y.result.number c.is_zero.result zero c.if-is_zero.true)
    ∙ (λ i. typed_reduced k (quotient (x i) (y i)))
