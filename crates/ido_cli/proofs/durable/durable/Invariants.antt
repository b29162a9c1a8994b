use Rattle.std.proofs.Common.{length}
use Rattle.run_tracker.specs.ObjectLives.{world_of}
use Rattle.ido_cli.proofs.DurableNumbers.{IsSoFar}
use Rattle.ido_cli.proofs.durable.durable.Given as goal

abbrev pub invariant-loop-variable : goal.invariant-loop-variable
invariant-loop-variable l = IsSoFar (world_of l.life).words l.declared (length l.yielded) l.found.items
