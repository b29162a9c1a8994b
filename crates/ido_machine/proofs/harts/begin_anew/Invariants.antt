use Rattle.ido_machine.proofs.BegunAnew.{AreAnewUpTo}
use Rattle.ido_machine.proofs.harts.begin_anew.Given as goal

abbrev pub invariant-loop-thread : goal.invariant-loop-thread
invariant-loop-thread l = AreAnewUpTo l.program l.initial.harts l.harts l.thread
