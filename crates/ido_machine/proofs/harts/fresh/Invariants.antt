use Rattle.ido_machine.specs.Harts.{AreFresh}
use Rattle.ido_machine.proofs.harts.fresh.Given as goal

abbrev pub invariant-loop-thread : goal.invariant-loop-thread
invariant-loop-thread l = AreFresh l.program l.harts.items l.thread
