-- A number reduces to what its low bits do.
use Rattle.std.proofs.Common.{◌∙◌}
use Rattle.std.specs.Prelude.{pos, FitsSigned}
use Rattle.std.specs.Int.{w128}
use Rattle.std.proofs.lemmas.Int.{to_z-of_z}
use Rattle.ido_ints.specs.Reduction.{reduced}
use Rattle.ido_ints.proofs.LowBits.{reduced-residue}
use Rattle.ido_ints.proofs.values.reduce.Goals as goal

pub returns-clause-value : goal.returns-clause-value
returns-clause-value c =
    let f = c.ranges.number in
    let g : FitsSigned w128 c.narrow.result = record { sfits = c.narrow.type_inv } in
    let n = simp to_z-of_z at c.residue.ensures in
    to_z-of_z w128 c.narrow.result g ∙ c.narrow.ensures.value ∙ (λ i. reduced (c.of.ensures i) (pos (n i))) ∙ reduced-residue c.args.kind c.args.number
