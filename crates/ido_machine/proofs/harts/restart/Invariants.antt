use Rattle.ido_machine.proofs.Starts.{AreRestarted}
use Rattle.ido_machine.proofs.harts.restart.Given as goal

abbrev pub invariant-loop-thread : goal.invariant-loop-thread
invariant-loop-thread l = AreRestarted l.program l.harts l.thread
