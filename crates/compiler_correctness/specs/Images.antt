-- What a crash leaves of a machine, and runs that are begun from it.
use Rattle.std.specs.Prelude.{◌≡◌, ℕ, ◌+◌, ◌*◌, ◌/◌, ◌<◌, ◌≤◌, List, ◌∷◌, ◌++◌, length, map, take, drop, true}
use Rattle.machine_events.specs.declared.event.Event.{Event}
use Rattle.machine_events.specs.declared.event.Event.TheVariants.{Crash}
use Rattle.ido_base.specs.Words.{durable_value, word_of, word_at}
use Rattle.ido_base.specs.Layout.{variable_lines, spread_words}
use Rattle.log_schemes.specs.Layout.{log_words}
use Rattle.c_tree.specs.Source.{is_between}
use Rattle.machine_model.specs.Machine.{World, after_crash_of, after_events, is_settled}
use Rattle.machine_model.specs.Schedule.{HaveNoStart, LifeSchedules, Steps, all_lives, kept_lives, schedules, steps_along, first_steps}
use Rattle.variable_words.specs.Variables.{durable_variables}
use Rattle.compiler_correctness.specs.Translations.{Translation, world, steps, source, IsRunnable}
use Rattle.compiler_correctness.specs.Compilation.{BeginLives}

pub record Image : Type 0 where
  -- the durable value of each word
  pub words : List ℕ
  -- the schedules of the kept steps
  pub kept : LifeSchedules

-- what the machine would leave then
abbrev pub image_of : Translation → List Event → Image
image_of c events = record { words = map durable_value (world c events).words; kept = kept_lives (steps c events) }

module _ (c : Translation) (image : Image) where
  -- power returns over its words: no lock is held, nothing is queued, and each hart that has a point is about to take its locks
  abbrev pub first_from : World
  first_from = after_crash_of c.runs.log c.runs.program c.runs.mutexes image.words

  -- the machine after the events
  abbrev pub world_from : List Event → World
  world_from events = after_events c.runs.program first_from events

  -- the account of its steps goes on after those that were kept
  abbrev pub steps_from : List Event → Steps
  steps_from events = steps_along c.runs.marks c.runs.program first_from events (first_steps image.kept)

-- the run from the image that the machine would leave is the one in which power is lost then
pub record IsCrashed (c : Translation) (before events : List Event) : Type 0 where
  pub world_is : world_from c (image_of c before) events ≡ world c (before ++ Crash ∷ events)
  -- the run from the image has the account of the run in which power is lost then, but in the life that goes on no entry for what was begun before
  pub begun_is : HaveNoStart events → (steps c before).begun ++ (steps_from c (image_of c before) events).begun ≡ (steps c (before ++ Crash ∷ events)).begun
  pub kept_is : kept_lives (steps_from c (image_of c before) events) ≡ kept_lives (steps c (before ++ Crash ∷ events))
  pub pending_is : (steps_from c (image_of c before) events).pending ≡ (steps c (before ++ Crash ∷ events)).pending

-- in a run from an image the source can be stepped by all kept steps, of which none is lost that the image has; and where all harts stand
-- between sections, so do all threads after these, and the durable variables are theirs
pub record IsResumedAsKept (c : Translation) (image : Image) (events : List Event) : Type 0 where
  pub runs : IsRunnable c (schedules (steps_from c image events))
  pub grows : BeginLives (schedules (steps_from c image events)) (all_lives image.kept)
  pub between : is_settled (world_from c image events) ≡ true → (thread : ℕ) → is_between (source c (schedules (steps_from c image events))) thread ≡ true
  pub variables : is_settled (world_from c image events) ≡ true →
      durable_variables (world_from c image events).words c.flat.variables ≡ (source c (schedules (steps_from c image events))).variables

-- ---- Image files

-- how many words the variables have
abbrev pub variable_words : Translation → ℕ
variable_words c = length c.runs.initial / 8

-- a file has those of an image, and after them the words of the logs
abbrev pub file_of : Translation → Image → Image
file_of c image = record { words = take (variable_words c) image.words ++ drop (8 * variable_lines) image.words; kept = image.kept }

-- a machine begins with a file's words, and with zeros between those of the variables and those of the logs
abbrev pub image_in : Translation → (file : Image) → Image
image_in c file = record { words = spread_words (variable_words c) file.words; kept = file.kept }

-- no word between those has been stored to: it is 0, durably, and has no other past
abbrev pub StayBetween : Translation → List Event → Type 0
StayBetween c events = (word : ℕ) → variable_words c ≤ word → word < 8 * variable_lines → word_at (world c events).words word ≡ word_of 0

-- the image's file has the words of the variables and a log for each thread, and is all of the image
pub record IsInFile (c : Translation) (image : Image) : Type 0 where
  pub size : length (file_of c image).words ≡ variable_words c + log_words c.runs.log * length c.runs.program
  pub is_all : image_in c (file_of c image) ≡ image
