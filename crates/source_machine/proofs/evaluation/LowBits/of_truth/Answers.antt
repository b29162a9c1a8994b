-- 1 and 0 are their own low bits.
use Rattle.std.proofs.Common.{◌≡◌, refl, true, false}
use Rattle.ido_ints.specs.Operators.{truth}
use Rattle.ido_ints.specs.Reduction.{residue}
use Rattle.source_machine.proofs.evaluation.LowBits.of_truth.Goals as goal

one : 1 ≡ residue 64 (truth true)
unfolding residue
one = refl

none : 0 ≡ residue 64 (truth false)
unfolding residue
none = refl

pub returns-then-holds-clause-bits : goal.returns-then-holds-clause-bits
returns-then-holds-clause-bits c = rw c.if-holds.true one

pub returns-else-holds-clause-bits : goal.returns-else-holds-clause-bits
returns-else-holds-clause-bits c = rw c.if-holds.false none
