use Rattle.std.proofs.Common.{◌≡◌, ◌++◌, drop, flat_map, map}
use Rattle.run_scripts.specs.Reports.{schedule_line}
use Rattle.run_scripts.specs.links.ReportViews.{steps_of}
use Rattle.run_scripts.proofs.report.put_schedules.Given as goal

abbrev pub invariant-loop-schedule : goal.invariant-loop-schedule
invariant-loop-schedule l =
    l.report.items ++ flat_map schedule_line (map steps_of (drop l.schedule-index l.schedules))
    ≡ l.initial.report.items ++ flat_map schedule_line (map steps_of l.schedules)
