-- Lives that go on from an image in which every thread stands between sections, whoever wrote it.
use Rattle.std.specs.Prelude.{◌≡◌, ◌≢◌, ℕ, ◌+◌, ◌<◌, ◌≤◌, List, length, map, true, false}
use Rattle.machine_events.specs.declared.event.Event.{Event}
use Rattle.ido_base.specs.Words.{word_of}
use Rattle.c_tree.specs.Source.{ended_from, is_between}
use Rattle.machine_model.specs.Machine.{durable_point}
use Rattle.machine_model.specs.Schedule.{all_lives, released_count}
use Rattle.variable_words.specs.Variables.{durable_variables}
use Rattle.compiler_correctness.specs.Translations.{Translation, IsRunnable, source, source_at}
use Rattle.compiler_correctness.specs.Compilation.{AreRecords, IsInStep}
use Rattle.compiler_correctness.specs.Images.{Image, IsResumedAsKept, first_from, steps_from, world_from}

-- as many sections are kept as are released, or one more
abbrev pub AreSectionsWithin : (released kept : ℕ) → Type 0
AreSectionsWithin released kept = (released ≤ kept) × (kept ≤ released + 1)

module _ (c : Translation) (image : Image) where
  -- no thread has a point; the source can be run by the schedules, after which every thread stands between sections; and the variables are its own then
  pub record IsSettledImage : Type 0 where
    pub points : (h : ℕ) → h < length c.runs.program → durable_point c.runs.log (map word_of image.words) h ≡ 0
    pub runs : IsRunnable c (all_lives image.kept)
    pub between : (thread : ℕ) → is_between (source c (all_lives image.kept)) thread ≡ true
    pub variables : durable_variables (map word_of image.words) c.flat.variables ≡ (source c (all_lives image.kept)).variables

  -- sections of the thread that have ended in the life that goes on by its kept schedule, and releases that have left its hart holding nothing
  abbrev pub kept_since : List Event → (thread : ℕ) → ℕ
  kept_since events thread = ended_from (source_at c (steps_from c image events).earlier) (steps_from c image events).kept thread

  abbrev pub released_since : List Event → (hart : ℕ) → ℕ
  released_since events hart = released_count c.runs.program (first_from c image) events hart

  -- what is so after the events of lives that go on from it
  pub record IsCarriedOn (events : List Event) : Type 0 where
    -- in a life without a crash, machine and source keep step
    pub in_step : (world_from c image events).recovering ≡ false → IsInStep c (world_from c image events) (steps_from c image events)
    pub records : AreRecords c (world_from c image events) (steps_from c image events)
    pub resumed : IsResumedAsKept c image events
    -- where another life has begun since, the kept schedule of the one that goes on has each section that a hart has left in it, and at most one more of its
    -- thread
    pub sections : (steps_from c image events).earlier ≢ image.kept.earlier → (h : ℕ) → AreSectionsWithin (released_since events h) (kept_since events h)
