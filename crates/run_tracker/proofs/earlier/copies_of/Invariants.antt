use Rattle.std.proofs.Common.{◌≡◌, map, take}
use Rattle.run_tracker.specs.links.EarlierLives.{schedule_in}
use Rattle.run_tracker.proofs.earlier.copies_of.Given as goal

abbrev pub invariant-loop-life : goal.invariant-loop-life
invariant-loop-life l = map schedule_in l.copies.items ≡ map schedule_in (take l.life-index l.lives)
