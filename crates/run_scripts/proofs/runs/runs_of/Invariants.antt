use Rattle.std.proofs.Common.{◌≡◌, ◌++◌, length, map}
use Rattle.run_scripts.specs.Runs.{runs_of}
use Rattle.run_scripts.specs.links.RunViews.{run_of}
use Rattle.run_scripts.proofs.runs.runs_of.Given as goal

abbrev pub invariant-loop-run : goal.invariant-loop-run
invariant-loop-run l = runs_of l.schedule ≡ map run_of l.runs.items ++ runs_of l.rest

abbrev pub decreases-loop-run : goal.decreases-loop-run
decreases-loop-run l = length l.rest
