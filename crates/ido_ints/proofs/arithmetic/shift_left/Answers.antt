-- The low bits, shifted left.
use Rattle.std.proofs.Common.{◌≡◌, ◌∙◌, ap, ◌*◌, ◌%◌, ◌^◌}
use Rattle.std.specs.Prelude.{pos}
use Rattle.std.proofs.lemmas.Int.{to_z-of_z}
use Rattle.ido_ints.specs.Operators.{places}
use Rattle.ido_ints.specs.TypedNumbers.{typed, typed_reduced}
use Rattle.ido_ints.proofs.LowBits.{reduced-bits_shl}
use Rattle.ido_ints.proofs.arithmetic.shift_left.Goals as goal

pub returns : goal.returns
returns c =
    let f = c.ranges.x in
    let g = c.ranges.count in
    let k = c.args.range.kind in
    let m = simp to_z-of_z at c.residue.ensures in
    let n = simp to_z-of_z at c.places.ensures.value in
    let p : c.places.result ≡ places k c.args.count = n ∙ ap (λ j. places j c.args.count) c.kind.ensures in
    c.value.ensures ∙ ap (λ r. typed_reduced k (pos (r * 2 ^ c.places.result % 2 ^ 64))) m
    ∙ ap (typed k) (reduced-bits_shl k c.args.x c.args.count c.places.result p)
