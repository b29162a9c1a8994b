-- The life of a compiled object: what it represents, and how it behaves as a core.
use Rattle.std.specs.Prelude.{ℕ, ◌+◌, ◌*◌, ◌/◌, List, [], ◌∷◌, ◌++◌, length, map, take, drop}
use Rattle.std.specs.Prelude.{slice_get, slice_index_or, Bool, false, not, ◌&&◌, ◌==◌, Some, None}
use Rattle.machine_events.specs.declared.event.Event.{Event}
use Rattle.ido_base.specs.Words.{Word, durable_value}
use Rattle.ido_base.specs.Layout.{variable_lines}
use Rattle.machine_events.specs.Cores.{Behaviour, IsValidNow, passed_count}
use Rattle.rv64_isa.specs.declared.object.Slot.{Slot}
use Rattle.machine_model.specs.declared.object.Object.{Object}
use Rattle.rv64_isa.specs.declared.object.Marks.{Marks}
use Rattle.machine_model.specs.Executables.{Executable, executable_of}
use Rattle.machine_model.specs.Machine.{World, IsEviction, can_start, has_stopped, after_event, after_events, reply_to}
use Rattle.machine_model.specs.Machine.{machine_start, machine_from, durable_point}
use Rattle.machine_model.specs.Schedule.{Steps, LifeSchedules, only_life, stores_point, finishes_fence, first_steps, steps_along}

-- ---- What a life is

pub record Course : Type 0 where
  -- what its machine runs
  pub runs : Executable
  -- the schedules that were kept before the first event
  pub kept_before : LifeSchedules
  -- how many sections of each thread have ended by these: 0 where none is told
  pub ended_before : List ℕ
  -- the world before the first event
  pub opening : World
  -- the events so far
  pub journal : List Event
  -- how many events it takes
  pub cap : ℕ

-- words of its variables
abbrev pub variable_words_in : Course → ℕ
variable_words_in life = length life.runs.initial / 8

-- the world now
abbrev pub world_of : Course → World
world_of life = after_events life.runs.program life.opening life.journal

-- the event may be asked of the life now
abbrev pub IsValidIn : Course → Event → Type 0
IsValidIn life event = IsValidNow (length life.runs.program) (IsEviction life.runs.log (length life.runs.program)) (can_start (world_of life)) event

-- the steps begun and kept by now
abbrev pub steps_in : Course → Steps
steps_in life = steps_along life.runs.marks life.runs.program life.opening life.journal (first_steps life.kept_before)

-- the life of an object before any event, which begins at this world with these schedules kept, by which so many sections of each thread have ended
abbrev pub life_at : Object → Marks → World → (kept : LifeSchedules) → (ended : List ℕ) → (cap : ℕ) → Course
life_at object marks world kept ended cap = record {
  runs = executable_of object marks;
  kept_before = kept;
  ended_before = ended;
  opening = world;
  journal = [];
  cap = cap;
}

-- the life that begins at the object's start
abbrev pub new_life : Object → Marks → (cap : ℕ) → Course
new_life object marks cap = life_at object marks (machine_start object) (only_life []) [] cap

-- the life that begins as after a crash that left these words of its variables and logs, with these schedules kept and so many sections ended by them
abbrev pub life_from : Object → Marks → (words : List ℕ) → (kept : LifeSchedules) → (ended : List ℕ) → (cap : ℕ) → Course
life_from object marks words kept ended cap = life_at object marks (machine_from object words []) kept ended cap

-- the life with an event more
abbrev pub with_event : Course → Event → Course
with_event life event = record life { journal = life.journal ++ event ∷ [] }

-- what a crash would leave of so many words of variables, and after them of the logs
unfoldable pub left_words : (variable_words : ℕ) → List Word → List ℕ
left_words variable_words words = take variable_words (map durable_value words) ++ drop (8 * variable_lines) (map durable_value words)

-- ---- A life as a core

-- what a machine runs with the world that it is at, and the schedules that were kept before and the sections ended by them, which no event changes
pub record LifeConfig : Type 0 where
  pub runs : Executable
  pub kept_before : LifeSchedules
  pub ended_before : List ℕ
  pub world : World

-- the hart has ended, or its recovery is done
abbrev pub is_stopped : World → (h : ℕ) → Bool
is_stopped w h = elim (slice_get w.harts h) [
  | Some hart ↦ has_stopped hart.phase
  | None ↦ false
]

abbrev pub living : Behaviour LifeConfig
living = record {
  next = λ m event. record m { world = after_event m.runs.program m.world event };
  reply = λ m event. reply_to m.runs.program m.world event;
  is_stopped = λ m h. is_stopped m.world h;
  can_start = λ m. can_start m.world;
  stores_point = λ m h event. stores_point m.runs.program m.world event h;
  finishes_fence = λ m h event. finishes_fence m.runs.program m.world event h;
}

abbrev pub opening_of : Course → LifeConfig
opening_of life = record {
  runs = life.runs;
  kept_before = life.kept_before;
  ended_before = life.ended_before;
  world = life.opening;
}

-- ---- Sections that have ended

-- the event makes the durable point of hart h 0, which it wasn't
abbrev pub ends_at_point : List (List Slot) → World → Event → (h : ℕ) → Bool
ends_at_point program w event h =
    not (durable_point w.log w.words h == 0) && (durable_point (after_event program w event).log (after_event program w event).words h == 0)

-- how many sections of the hart's thread have ended, and are kept, since the life began: so often its durable point has become 0
abbrev pub sections_since : Course → (h : ℕ) → ℕ
sections_since life h = passed_count living (λ m event. ends_at_point m.runs.program m.world event h) (opening_of life) life.journal

-- how many have ended and are kept, those that had ended before among them
abbrev pub ended_sections : Course → (h : ℕ) → ℕ
ended_sections life h = slice_index_or life.ended_before h 0 + sections_since life h
