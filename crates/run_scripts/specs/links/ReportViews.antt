-- What the types of `report` represent.
use Rattle.std.specs.Prelude.{Vec, ℕ, List, map}
use Rattle.std.specs.Global.{Global}
use Rattle.run_scripts.specs.Reports as r
use Rattle.run_scripts.specs.declared.report.Variable.{Variable}
use Rattle.run_scripts.specs.declared.report.Reported.{Reported}

abbrev pub variable_of : Variable → r.Variable
variable_of x = record { name = x.name.items; elements = x.elements.items }

abbrev pub steps_of : Vec ℕ Global → List ℕ
steps_of schedule = schedule.items

abbrev pub state_of : Reported → r.ReportedState
state_of x = record {
  unsettled = x.unsettled.items;
  variables = map variable_of x.variables.items;
  ended = x.ended.items;
  schedules = map steps_of x.schedules.items;
}
