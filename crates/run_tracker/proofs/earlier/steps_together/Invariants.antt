use Rattle.std.proofs.Common.{◌≡◌, ◌++◌, drop, map}
use Rattle.run_tracker.specs.links.EarlierLives.{schedule_in, steps_together}
use Rattle.run_tracker.proofs.earlier.steps_together.Given as goal

abbrev pub invariant-loop-life : goal.invariant-loop-life
invariant-loop-life l = l.steps.items ++ steps_together (map schedule_in (drop l.life-index l.lives)) ≡ steps_together (map schedule_in l.lives)
