-- Of 128 bits the low 64.
use Rattle.std.proofs.Common.{◌∙◌, ap, ◌%◌, ◌^◌}
use Rattle.std.proofs.lemmas.Int.{to_z-of_z}
use Rattle.ido_ints.proofs.LowBits.{residue-wide}
use Rattle.ido_ints.proofs.values.residue.Goals as goal

pub returns : goal.returns
returns c =
    let f = c.ranges.number in
    let bits = simp to_z-of_z at c.cast_unsigned.ensures in
    ap (λ n. n % 2 ^ 64) bits ∙ residue-wide c.args.number f
