-- A number of a kind, shifted right, is exact.
use Rattle.std.proofs.Common.{◌≡◌, ◌∙◌, ap}
use Rattle.std.specs.Int.{int_shr}
use Rattle.std.proofs.lemmas.Int.{to_z-of_z}
use Rattle.ido_ints.specs.Operators.{places}
use Rattle.ido_ints.specs.Reduction.{reduced}
use Rattle.ido_ints.specs.TypedNumbers.{Typed, typed_reduced}
use Rattle.ido_ints.proofs.ExactArithmetic.{right_exact}
use Rattle.ido_ints.proofs.arithmetic.shift_right.Goals as goal

pub returns : goal.returns
returns c =
    let f = c.ranges.x in
    let g = c.ranges.count in
    let k = c.args.range.kind in
    let v = simp to_z-of_z at c.converted.ensures in
    let x : c.number.result ≡ reduced k c.args.x = c.number.ensures.value ∙ ap (λ (t : Typed). t.number) v in
    let n = simp to_z-of_z at c.places.ensures.value in
    let p : c.places.result ≡ places k c.args.count = n ∙ ap (λ j. places j c.args.count) c.kind.ensures in
    let exact = right_exact c.number.result c.places.result (record { at_least = c.number.ensures.at_least; below = c.number.ensures.below }) in
    c.converted-2.ensures ∙ ap (typed_reduced k) (exact ∙ (λ i. int_shr (x i) (p i)))
