-- What the fields of a local run represent.
use Rattle.std.specs.Prelude.{◌≡◌, ℕ, zero, suc, ◌+◌, ◌<◌, ◌≤◌, List, Option, Some, None, ◌==◌, if◌then◌else◌}
use Rattle.std.specs.List.{list_any}
use Rattle.machine_model.specs.declared.phase.Phase.TheVariants.{Run}
use Rattle.machine_model.specs.Schedule.{Steps, with_begun}
use Rattle.hart_core.specs.declared.local.LocalState.{LocalState}
use Rattle.hart_core.specs.LocalSteps.{PlacedCode, local_run}
use Rattle.run_tracker.specs.declared.local.LocalRun.TheInside.{Inside}
use Rattle.run_tracker.specs.LocalRuns.{LocalCourse, state_in}
use Rattle.ido_machine.specs.links.SignTables.{placed_in, slots_in, IsTableOf}

-- whether a mark stands at the pc: 1 or 0
abbrev pub marks_at : (marks : List ℕ) → Option LocalState → ℕ
marks_at marks None = 0
marks_at marks (Some s) = if list_any (λ mark. mark == s.pc) marks then 1 else 0

-- how many marks so many local instructions pass
abbrev pub marks_passed : (marks : List ℕ) → PlacedCode → LocalState → ℕ → ℕ
marks_passed marks code s zero = 0
marks_passed marks code s (suc n) = marks_passed marks code s n + marks_at marks (local_run code s n)

-- so many steps of the source begun by a hart
abbrev pub with_more_begun : (h count : ℕ) → Steps → Steps
with_more_begun h zero s = s
with_more_begun h (suc count) s = with_begun h (with_more_begun h count s)

abbrev pub local_course_of : Inside → LocalCourse
local_course_of run = record {
  code = placed_in run.table;
  marks = run.addresses.items;
  phase = run.phase;
  first = run.first;
  made = run.made;
}

-- registers and pc are those after the instructions, of which so many have passed a mark
pub record LocalInv (run : Inside) : Type 0 where
  pub table : IsTableOf run.table run.table.start (slots_in run.table.entries.items) run.addresses.items
  pub state : state_in (local_course_of run) ≡ Some run.state
  pub passed : run.passed ≡ marks_passed run.addresses.items (placed_in run.table) run.first run.made
  pub few : run.passed ≤ run.made
  pub running : 0 < run.made → run.phase ≡ Run
