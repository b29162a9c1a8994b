-- The low bits of a sum.
use Rattle.std.proofs.Common.{◌∙◌, ap, ◌+◌, ◌%◌, ◌^◌}
use Rattle.std.specs.Prelude.{pos}
use Rattle.std.proofs.lemmas.Int.{to_z-of_z}
use Rattle.ido_ints.specs.TypedNumbers.{typed, typed_reduced}
use Rattle.ido_ints.proofs.LowBits.{reduced-bits_add}
use Rattle.ido_ints.proofs.arithmetic.sum.Goals as goal

pub returns : goal.returns
returns c =
    let f = c.ranges.x in
    let g = c.ranges.y in
    let k = c.args.range.kind in
    let m = simp to_z-of_z at c.residue.ensures in
    let n = simp to_z-of_z at c.residue-2.ensures in
    c.value.ensures ∙ (λ i. typed_reduced k (pos ((m i + n i) % 2 ^ 64))) ∙ ap (typed k) (reduced-bits_add k c.args.x c.args.y)
