use Rattle.region_checker.proofs.LeastNumbers.{IsAfterBelow}
use Rattle.region_checker.proofs.conflicts.is_after.Given as goal

abbrev pub invariant-loop-number : goal.invariant-loop-number
invariant-loop-number l = ¬ (IsAfterBelow l.paths l.marks l.number l.node)
