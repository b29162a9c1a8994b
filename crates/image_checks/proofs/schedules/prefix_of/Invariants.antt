use Rattle.std.proofs.Common.{map}
use Rattle.run_scripts.specs.links.RunViews.{run_of}
use Rattle.image_checks.proofs.ScheduleLaws.{IsSoFar}
use Rattle.image_checks.proofs.schedules.prefix_of.Given as goal

abbrev pub invariant-loop-run : goal.invariant-loop-run
invariant-loop-run l = IsSoFar l.before (map run_of l.runs) l.run-index l.steps.items l.last
