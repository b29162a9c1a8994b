-- The count modulo the width, by a mask.
use Rattle.std.proofs.Common.{◌∙◌, ◌-◌}
use Rattle.std.specs.Prelude.{bit_and}
use Rattle.std.proofs.lemmas.Int.{to_z-of_z}
use Rattle.ido_ints.proofs.LowBits.{places-mask}
use Rattle.ido_ints.proofs.arithmetic.places.Goals as goal

pub returns-clause-value : goal.returns-clause-value
returns-clause-value c =
    let f = c.ranges.count in
    let n = simp to_z-of_z at c.residue.ensures in
    (λ i. bit_and (n i) (c.bits.ensures i - 1)) ∙ places-mask c.args.kind c.args.count
