use Rattle.region_cutter.proofs.CoveredReads.{AreNotedBelow}
use Rattle.region_cutter.proofs.covered.note.Given as goal

abbrev pub invariant-loop-read : goal.invariant-loop-read
invariant-loop-read l = AreNotedBelow l.found l.ahead l.all l.read-index l.initial.covered.items l.covered.items
