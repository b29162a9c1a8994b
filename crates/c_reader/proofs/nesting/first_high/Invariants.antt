use Rattle.std.proofs.Common.{◌≡◌, false}
use Rattle.c_tree.specs.TextReadings.{is_high}
use Rattle.c_reader.specs.links.Nestings.{nesting_of}
use Rattle.c_reader.proofs.Nestings.{IsNesting}
use Rattle.c_reader.proofs.nesting.first_high.Given as goal

abbrev pub invariant-loop-i : goal.invariant-loop-i
invariant-loop-i l = IsNesting l.tokens l.i (nesting_of l.nesting) × (is_high (nesting_of l.nesting) ≡ false)
