-- A number reduces to what its low bits do.
use Rattle.std.proofs.Common.{◌∙◌, ap}
use Rattle.std.specs.Prelude.{pos}
use Rattle.std.proofs.lemmas.Int.{to_z-of_z}
use Rattle.ido_ints.specs.TypedNumbers.{typed, typed_reduced}
use Rattle.ido_ints.proofs.LowBits.{reduced-residue}
use Rattle.ido_ints.proofs.arithmetic.converted.Goals as goal

pub returns : goal.returns
returns c =
    let f = c.ranges.number in
    let k = c.args.range.kind in
    let n = simp to_z-of_z at c.residue.ensures in
    c.value.ensures ∙ ap (λ m. typed_reduced k (pos m)) n ∙ ap (typed k) (reduced-residue k c.args.number)
