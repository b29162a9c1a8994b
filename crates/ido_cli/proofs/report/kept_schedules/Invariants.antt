use Rattle.std.proofs.Common.{◌≡◌, map, take}
use Rattle.machine_model.specs.Schedule.{schedules}
use Rattle.run_scripts.specs.links.ReportViews.{steps_of}
use Rattle.run_tracker.specs.ObjectLives.{steps_in}
use Rattle.ido_cli.proofs.report.kept_schedules.Given as goal

abbrev pub invariant-loop-number : goal.invariant-loop-number
invariant-loop-number l = map steps_of l.kept.items ≡ take l.number (schedules (steps_in l.life))
