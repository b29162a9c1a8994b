use Rattle.std.proofs.Common.{◌≡◌, ◌++◌, length, flat_map}
use Rattle.run_scripts.specs.Reports.{run_text}
use Rattle.run_scripts.specs.Runs.{runs_of}
use Rattle.run_scripts.proofs.report.put_runs.Given as goal

abbrev pub invariant-loop-run : goal.invariant-loop-run
invariant-loop-run l = l.initial.report.items ++ flat_map run_text (runs_of l.schedule) ≡ l.report.items ++ flat_map run_text (runs_of l.rest)

abbrev pub decreases-loop-run : goal.decreases-loop-run
decreases-loop-run l = length l.rest
