-- How soon a hart that executes instructions begins the next step of its thread, or stops.
use Rattle.std.specs.Prelude.{◌≡◌, ◌⊎◌, ℕ, ◌+◌, ◌*◌, ◌<◌, ◌≤◌, List, [], ◌∷◌, ◌++◌, length, slice_get, Some, None, Bool, true, false, not, ◌==◌, ◌&&◌}
use Rattle.std.specs.Prelude.{if◌then◌else◌, filter}
use Rattle.machine_events.specs.declared.event.Event.{Event}
use Rattle.machine_events.specs.declared.event.Event.TheVariants.{Step, Evict, Crash, Start}
use Rattle.machine_events.specs.declared.event.Reply.{Reply}
use Rattle.machine_events.specs.declared.event.Reply.TheVariants.{Moved, Drained, Waits, Barrier, Still, Stuck, Device}
use Rattle.rv64_isa.specs.declared.object.Slot.{Slot}
use Rattle.rv64_isa.specs.Programs.{code_of}
use Rattle.boundary_code.specs.Boundaries.{frame_lines}
use Rattle.machine_model.specs.declared.phase.Phase.TheVariants.{Run}
use Rattle.machine_model.specs.Executables.{Executable}
use Rattle.machine_model.specs.Machine.{Hart, World, after_event, has_stopped, reply_to}
use Rattle.machine_model.specs.Schedule.{Steps, is_running, passes_mark}
use Rattle.hart_runs.specs.Calls.{IsInPhase}
use Rattle.compiler_correctness.specs.Translations.{HaveNoCrash, Translation, world, steps}

abbrev pub has_waited : Reply → Bool
has_waited (Waits lock holder) = true
has_waited Moved = false
has_waited Drained = false
has_waited (Barrier hart) = false
has_waited Still = false
has_waited (Stuck cause) = false
has_waited Device = false

-- the event is a step of hart h, which executes instructions and waits for no lock; one that only writes back what was cleaned is such, too
abbrev pub is_active_step : List (List Slot) → World → Event → (h : ℕ) → Bool
is_active_step program w (Step g) h = (g == h) && elim (slice_get w.harts h) [
  | None ↦ false
  | Some hart ↦ is_running hart.phase && not (has_waited (reply_to program w (Step h)))
]
is_active_step program w (Evict line mask) h = false
is_active_step program w Crash h = false
is_active_step program w Start h = false

-- how many of the events are such
abbrev pub active_steps : List (List Slot) → World → List Event → (h : ℕ) → ℕ
active_steps program w [] h = 0
active_steps program w (event ∷ events) h =
    (if is_active_step program w event h then 1 else 0) + active_steps program (after_event program w event) events h

-- the hart has ended, or is done
pub record IsStopped (w : World) (h : ℕ) : Type 0 where
  pub hart : Hart
  pub here : slice_get w.harts h ≡ Some hart
  pub stopped : has_stopped hart.phase ≡ true

-- how many steps of its thread hart h has begun
abbrev pub begun_by : Steps → (h : ℕ) → ℕ
begun_by s h = length (filter (λ g. g == h) s.begun)

-- by the later events the hart begins one step more, or has stopped
abbrev pub GetsOn : Translation → (events more : List Event) → (h : ℕ) → Type 0
GetsOn c events more h = (begun_by (steps c events) h < begun_by (steps c (events ++ more)) h) ⊎ IsStopped (world c (events ++ more)) h

-- the event is a step of hart h, which executes instructions: by it the hart begins a step of its thread, or it has stopped after it
pub record GetsOnBy (runs : Executable) (w : World) (event : Event) (h : ℕ) : Type 0 where
  pub is : event ≡ Step h
  pub executes : IsInPhase w h Run
  pub gets_on : (passes_mark runs.marks runs.program w h ≡ true) ⊎ IsStopped (after_event runs.program w event) h

-- it does so by one of the events
abbrev pub GetsOnAmong : Executable → World → List Event → (h : ℕ) → Type 0
GetsOnAmong runs w [] h = ⊥
GetsOnAmong runs w (event ∷ events) h = GetsOnBy runs w event h ⊎ GetsOnAmong runs (after_event runs.program w event) events h

-- the steps within which a hart begins one of its thread, or stops: twice the words of its code, and 18, and where locals stand in the log one more for each
-- line in which they do
abbrev pub delay : Translation → (h : ℕ) → ℕ
delay c h = 2 * length (code_of c.runs.program h) + 18 + length (frame_lines c.runs.log true)

-- From the world on delays are bounded, whatever other harts do, whatever is evicted, and whichever lives begin, as long as power stays on: by one of any so
-- many such steps the hart begins one of its thread, or stops. A life that begins finds each hart stopped.
abbrev pub AreDelaysBounded : Translation → World → Type 0
AreDelaysBounded c w = (more : List Event) (h : ℕ) → HaveNoCrash more → delay c h ≤ active_steps c.runs.program w more h → GetsOnAmong c.runs w more h
