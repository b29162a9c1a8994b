-- Bank kept: no bank is stored to that a point names.
use Rattle.std.specs.Prelude.{◌≡◌, ◌≢◌, ℕ, ◌<◌, List, length}
use Rattle.machine_events.specs.declared.event.Event.{Event}
use Rattle.machine_events.specs.declared.event.Event.TheVariants.{Crash}
use Rattle.rv64_isa.specs.declared.object.Slot.{Slot}
use Rattle.machine_model.specs.Machine.{World, after_event}
use Rattle.log_states.specs.Logs.{IsInBank}
use Rattle.crash_simulation.specs.Systems.{System, IsSystem}
use Rattle.compiler_correctness.specs.Laws.{translation_of}
use Rattle.compiler_correctness.specs.Translations.{world}
use Rattle.resumption_facts.specs.Points.{IsPointOf, named_in}

-- whatever happens but a crash, whichever hart steps: of each word of the bank the past stays as it is
abbrev pub AreBanksKept : List (List Slot) → World → (h : ℕ) → Type 0
AreBanksKept program w h = (event : Event) (point slot : ℕ) → event ≢ Crash → IsPointOf w h point → point ≢ 0 → IsInBank w.log slot →
    (named_in w h point slot (after_event program w event).words).values ≡ (named_in w h point slot w.words).values

-- after any events, of each hart of a compiled program, however its threads log
abbrev pub BanksAreKept : Type 0
BanksAreKept = (y : System) → IsSystem y → (events : List Event) (h : ℕ) → h < length y.runs.program →
    AreBanksKept y.runs.program (world (translation_of y) events) h
