-- The bounds follow from the range of the kind.
use Rattle.std.proofs.Common.{arith}
use Rattle.std.proofs.lemmas.Int.{ints}
use Rattle.ido_ints.proofs.ReductionLaws.{Holds-Bounded}
use Rattle.ido_ints.proofs.values.Value.number.Goals as goal

pub returns-clause-at_least : goal.returns-clause-at_least
returns-clause-at_least c = let b = Holds-Bounded c.self.inside.kind c.self.inside.number c.self.invariant in omega (arith, ints, b.at_least)

pub returns-clause-below : goal.returns-clause-below
returns-clause-below c = let b = Holds-Bounded c.self.inside.kind c.self.inside.number c.self.invariant in omega (arith, ints, b.below)
