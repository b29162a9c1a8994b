use Rattle.std.proofs.Common.{◌≡◌, ◌++◌, drop, flat_map, map}
use Rattle.run_scripts.specs.Reports.{numbers_in}
use Rattle.run_scripts.specs.links.ReportViews.{variable_of}
use Rattle.run_scripts.proofs.report.numbers.Given as goal

abbrev pub invariant-loop-variable : goal.invariant-loop-variable
invariant-loop-variable l =
    l.numbers.items ++ flat_map numbers_in (map variable_of (drop l.variable-index l.variables)) ≡ flat_map numbers_in (map variable_of l.variables)
