use Rattle.image_checks.proofs.Masks.{AreOnceBelow}
use Rattle.image_checks.proofs.bank.are_once.Given as goal

abbrev pub invariant-loop-place : goal.invariant-loop-place
invariant-loop-place l = AreOnceBelow l.locks l.place
