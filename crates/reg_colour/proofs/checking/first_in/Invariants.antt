use Rattle.reg_colour.specs.links.LeastClash.{IsLeastOf}
use Rattle.reg_colour.proofs.Clashes.{ClashUpTo}
use Rattle.reg_colour.proofs.checking.first_in.Given as goal

abbrev pub invariant-loop-a : goal.invariant-loop-a
invariant-loop-a l = IsLeastOf (ClashUpTo l.intervals l.registers l.a) l.found
