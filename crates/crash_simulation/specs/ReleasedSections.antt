-- The kept schedule and the machine's releases: it holds each section that has ended, and at most one more of each thread.
use Rattle.std.specs.Prelude.{◌≡◌, ℕ, suc, ◌+◌, ◌≤◌, List, [], Bool, if◌then◌else◌}
use Rattle.machine_events.specs.declared.event.Event.{Event}
use Rattle.c_tree.specs.Source.{start, ended_from}
use Rattle.source_machine.specs.Lives.{begun_after}
use Rattle.machine_model.specs.declared.phase.Phase.TheVariants.{Done}
use Rattle.machine_model.specs.Executables.{first_world}
use Rattle.machine_model.specs.Machine.{World}
use Rattle.machine_model.specs.Schedule.{Steps, only_life, first_steps, steps_along, released_count}
use Rattle.hart_runs.specs.Calls.{IsInPhase}
use Rattle.crash_simulation.specs.Systems.{System, IsSystem, flat_of}
use Rattle.crash_simulation.specs.AbstractRuns.{AbstractRun}
use Rattle.crash_simulation.specs.ThreadGhosts.{ThreadGhost}
use Rattle.crash_simulation.specs.InstructionSteps.{is_leaving}

abbrev pub one_if : Bool → ℕ
one_if b = if b then 1 else 0

-- how many sections of the thread have ended in the kept schedule, since the execution began
abbrev pub sections_kept : (y : System) → AbstractRun y → (thread : ℕ) → ℕ
sections_kept y b thread = ended_from b.origin.source b.schedule thread

-- as many as the hart has left by a release, and one more where that release is still to come, or never comes since a crash came before it
pub data IsReleasedOf (y : System) (w : World) (b : AbstractRun y) (thread : ℕ) (c : ThreadGhost) (released : ℕ) : Type 0 where
  in_step : sections_kept y b thread ≡ released + one_if (is_leaving c) → IsReleasedOf y w b thread c released
  cut_off : IsInPhase w thread Done → sections_kept y b thread ≡ suc released → IsReleasedOf y w b thread c released

-- the sections of this life that have ended for the source, by the kept schedules of all lives, and for the machine
abbrev pub ended_by : (y : System) → Steps → (thread : ℕ) → ℕ
ended_by y steps thread = ended_from (begun_after (flat_of y) (start (flat_of y)) steps.earlier) steps.kept thread

abbrev pub ended_in_source : (y : System) → List Event → (thread : ℕ) → ℕ
ended_in_source y events thread =
    ended_by y (steps_along y.runs.marks y.runs.program (first_world y.runs) events (first_steps (only_life []))) thread

abbrev pub ended_in_machine : (y : System) → List Event → (hart : ℕ) → ℕ
ended_in_machine y events hart = released_count y.runs.program (first_world y.runs) events hart

-- after whatever events, as many sections are kept as the hart has left by a release, or one more
abbrev pub SectionsAreKept : Type 0
SectionsAreKept = (y : System) (s : IsSystem y) (events : List Event) (h : ℕ) →
    (ended_in_machine y events h ≤ ended_in_source y events h) × (ended_in_source y events h ≤ ended_in_machine y events h + 1)
