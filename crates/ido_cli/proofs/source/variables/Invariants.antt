use Rattle.std.proofs.Common.{◌≡◌, ◌++◌, drop, map}
use Rattle.c_tree.specs.Programs.{variable_of}
use Rattle.run_scripts.specs.links.ReportViews as views
use Rattle.ido_cli.specs.Runs.{taken}
use Rattle.ido_cli.proofs.source.variables.Given as goal

abbrev pub invariant-loop-variable : goal.invariant-loop-variable
invariant-loop-variable l =
    map views.variable_of l.found.items ++ taken (map variable_of (drop l.variable-index l.declared)) l.rest ≡ taken (map variable_of l.declared) l.elements
