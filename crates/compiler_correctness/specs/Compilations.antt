-- What code is that does what its source does, whatever happens: all that is promised of compiled programs.
use Rattle.std.specs.Prelude.{◌≡◌, List, false}
use Rattle.machine_events.specs.declared.event.Event.{Event}
use Rattle.compiler_correctness.specs.Translations.{Translation, steps, world}
use Rattle.compiler_correctness.specs.Compilation.{IsSettledAsKept, KeptScheduleGrows, AreSectionsKept, AreRecords, AreWhole, IsInStep, NeverStuck}
use Rattle.compiler_correctness.specs.Forms.{HasForm}
use Rattle.compiler_correctness.specs.Delays.{AreDelaysBounded}
use Rattle.compiler_correctness.specs.Images.{IsResumedAsKept, IsInFile, image_of, file_of, image_in}

-- The events are any steps, evictions, crashes and starts, in any order. By a start another life begins where each hart has stopped between sections, and
-- else nothing changes.
pub record IsCompilation (c : Translation) : Type 0 where
  pub form : HasForm c
  -- in a life without a crash, machine and source keep step
  pub in_step : (events : List Event) → (world c events).recovering ≡ false → IsInStep c (world c events) (steps c events)
  pub never_stuck : (events : List Event) → NeverStuck c events
  pub delays : (events : List Event) → AreDelaysBounded c (world c events)
  pub whole : (events : List Event) → AreWhole c events
  pub records : (events : List Event) → AreRecords c (world c events) (steps c events)
  pub grows : (events : List Event) → KeptScheduleGrows c events
  -- kept steps hold the sections that have ended; where harts stand between sections, durable variables are what the source leaves by those steps
  pub sections : (events : List Event) → AreSectionsKept c events
  pub settled : (events : List Event) → IsSettledAsKept c events
  -- in a run that is begun from what a crash left, kept steps stay so, and where harts stand between sections, durable variables are theirs
  pub images : (before events : List Event) → IsResumedAsKept c (image_of c before) events
  -- the words of variables and logs alone are all of an image: a run that is begun from its file keeps steps as one from the image does
  pub in_file : (before : List Event) → IsInFile c (image_of c before)
  pub files : (before events : List Event) → IsResumedAsKept c (image_in c (file_of c (image_of c before))) events
