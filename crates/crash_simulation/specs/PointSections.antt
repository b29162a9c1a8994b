-- Sections that are kept, and durable points: by each event of a life one section of a thread ends in its kept schedule exactly where the durable point of
-- its hart, which was not 0, becomes 0.
use Rattle.std.specs.Prelude.{◌≡◌, ℕ, ◌+◌, ◌<◌, List, [], ◌∷◌, ◌++◌, Bool, false, not, ◌&&◌, ◌==◌}
use Rattle.machine_events.specs.declared.event.Event.{Event}
use Rattle.machine_model.specs.Executables.{first_world}
use Rattle.machine_model.specs.Machine.{World, after_event, after_events, durable_point}
use Rattle.machine_model.specs.Schedule.{begins_life}
use Rattle.crash_simulation.specs.Systems.{System, IsSystem, thread_count}
use Rattle.crash_simulation.specs.ReleasedSections.{one_if, ended_in_source}

-- the durable point of hart h isn't 0 in the one world, and is 0 in the other
abbrev pub loses_point : (before after : World) → (h : ℕ) → Bool
loses_point before after h = not (durable_point before.log before.words h == 0) && (durable_point after.log after.words h == 0)

-- whatever has happened, an event that begins no life ends a section of a thread by the kept schedule exactly where its hart's durable point becomes 0
abbrev pub SectionsEndAtPoints : Type 0
SectionsEndAtPoints = (y : System) → IsSystem y → (events : List Event) (event : Event) (h : ℕ) → h < thread_count y →
    (let w : World = after_events y.runs.program (first_world y.runs) events in begins_life w event ≡ false →
    ended_in_source y (events ++ event ∷ []) h ≡ ended_in_source y events h + one_if (loses_point w (after_event y.runs.program w event) h))
