-- The least number, and above it the low bits.
use Rattle.std.proofs.Common.{rules}
use Rattle.std.specs.Prelude.{FitsSigned}
use Rattle.std.specs.Int.{w64}
use Rattle.std.proofs.lemmas.Int.{to_z-of_z}
use Rattle.ido_ints.proofs.LowBits.{narrowed_exact}
use Rattle.ido_ints.proofs.values.Range.narrow.Goals as goal

pub returns-clause-value : goal.returns-clause-value
returns-clause-value c =
    let r = c.args.self in
    let f : FitsSigned w64 r.least = search rules in
    narrowed_exact r.kind c.args.number r.least c.cast_unsigned.result r.mask r.begins r.places f (simp to_z-of_z at c.cast_unsigned.ensures)
