-- The low bits of a negative.
use Rattle.std.proofs.Common.{◌∙◌, ap, ◌-◌, ◌%◌, ◌^◌, zero-add}
use Rattle.std.specs.Prelude.{pos}
use Rattle.std.proofs.lemmas.Int.{to_z-of_z}
use Rattle.ido_ints.specs.TypedNumbers.{typed, typed_reduced}
use Rattle.ido_ints.proofs.LowBits.{reduced-bits_neg}
use Rattle.ido_ints.proofs.arithmetic.negative.Goals as goal

pub returns : goal.returns
returns c =
    let f = c.ranges.number in
    let k = c.args.range.kind in
    let n = simp to_z-of_z at c.residue.ensures in
    c.value.ensures ∙ (λ i. typed_reduced k (pos (zero-add (2 ^ 64 - n i) i % 2 ^ 64))) ∙ ap (typed k) (reduced-bits_neg k c.args.number)
