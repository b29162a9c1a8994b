use Rattle.reg_colour.specs.links.LeastClash.{IsLeastOf}
use Rattle.reg_colour.proofs.Clashes.{ClashOfBelow}
use Rattle.reg_colour.proofs.checking.first_of.Given as goal

abbrev pub invariant-loop-b : goal.invariant-loop-b
invariant-loop-b l = IsLeastOf (ClashOfBelow l.intervals l.registers l.a l.b) l.found
