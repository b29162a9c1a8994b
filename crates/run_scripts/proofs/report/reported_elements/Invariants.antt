use Rattle.std.proofs.Common.{◌≡◌, ◌++◌, drop, map}
use Rattle.run_scripts.specs.Reports.{reported}
use Rattle.run_scripts.proofs.report.reported_elements.Given as goal

abbrev pub invariant-loop-number : goal.invariant-loop-number
invariant-loop-number l = l.elements.items ++ map (reported l.refers) (drop l.number-index l.numbers) ≡ map (reported l.refers) l.numbers
