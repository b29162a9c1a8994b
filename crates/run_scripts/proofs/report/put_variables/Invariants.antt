use Rattle.std.proofs.Common.{◌≡◌, ◌++◌, drop, flat_map, map}
use Rattle.run_scripts.specs.Reports.{variable_line}
use Rattle.run_scripts.specs.links.ReportViews.{variable_of}
use Rattle.run_scripts.proofs.report.put_variables.Given as goal

abbrev pub invariant-loop-variable : goal.invariant-loop-variable
invariant-loop-variable l =
    l.report.items ++ flat_map variable_line (map variable_of (drop l.variable-index l.variables))
    ≡ l.initial.report.items ++ flat_map variable_line (map variable_of l.variables)
