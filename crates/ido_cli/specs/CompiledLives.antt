-- Lives of compiled texts.
use Rattle.std.specs.Prelude.{◌≡◌, ℕ, ◌<◌, List, length, slice_index_or}
use Rattle.compiler_correctness.specs.Translations.{Translation, world, steps}
use Rattle.compiler_correctness.specs.Compilations.{IsCompilation}
use Rattle.compiler_correctness.specs.Images.{Image, image_in, world_from, steps_from}
use Rattle.run_tracker.specs.ObjectLives.{Course, ended_sections, life_from, new_life, opening_of, steps_in, world_of}
use Rattle.c_tree.specs.Flats.{Flat, flat_of}
use Rattle.c_tree.specs.Source.{start}
use Rattle.machine_events.specs.declared.event.Event.{Event}
use Rattle.machine_model.specs.Schedule.{all_lives, schedules}
use Rattle.source_machine.specs.Lives.{ended_lives}
use Rattle.image_checks.specs.RunImages.{left_by}
use Rattle.ido_compile.specs.declared.compiler.Compiled.{Compiled}
use Rattle.ido_compile.specs.CompileAnswers.{IsCompiledAs, translation_in}
use Rattle.log_schemes.specs.declared.log.Log.{Log}

-- The machine of the life, and the steps of the source that it has begun and kept, are a compilation's after its events: all that a life answers is read off
-- these two.
pub record IsLifeOf (c : Translation) (life : Course) : Type 0 where
  pub compilation : IsCompilation c
  pub world_is : world_of life ≡ world c life.journal
  pub steps_are : steps_in life ≡ steps c life.journal

-- they are those of a run that goes on from a file
pub record IsLifeFrom (c : Translation) (file : Image) (life : Course) : Type 0 where
  pub compilation : IsCompilation c
  pub world_is : world_of life ≡ world_from c (image_in c file) life.journal
  pub steps_are : steps_in life ≡ steps_from c (image_in c file) life.journal

-- whatever events a life makes that began with the object and the marks of a text, compiled for whichever log
abbrev pub LivesAreCompiled : Type 0
LivesAreCompiled = (log : Log) (text : List ℕ) (c : Compiled) (cap : ℕ) (life : Course) → IsCompiledAs log text c →
    opening_of life ≡ opening_of (new_life c.translated.object c.translated.marks cap) → IsLifeOf (translation_in c) life

-- whatever events one makes that began with these as after a crash which left a file's words, with the schedules of the file
abbrev pub LivesOfFilesAreCompiled : Type 0
LivesOfFilesAreCompiled = (log : Log) (text : List ℕ) (c : Compiled) (file : Image) (ended : List ℕ) (cap : ℕ) (life : Course) → IsCompiledAs log text c →
    opening_of life ≡ opening_of (life_from c.translated.object c.translated.marks file.words file.kept ended cap) → IsLifeFrom (translation_in c) file life

-- ---- Ended sections

-- it has counted the sections of each thread that the source ends by its kept schedules, over all lives
abbrev pub CountsEnded : Flat → Course → Type 0
CountsEnded flat life = (h : ℕ) → h < length life.runs.program → ended_sections life h ≡ ended_lives flat (start flat) (schedules (steps_in life)) h

abbrev pub LivesCountSections : Type 0
LivesCountSections = (log : Log) (text : List ℕ) (c : Compiled) (cap : ℕ) (life : Course) → IsCompiledAs log text c →
    opening_of life ≡ opening_of (new_life c.translated.object c.translated.marks cap) → CountsEnded (flat_of c.flat) life

-- where it began with the file that a run of the same translation has left, and with as many sections as the source ends by the schedules of that
abbrev pub LivesOfFilesCountSections : Type 0
LivesOfFilesCountSections = (log : Log) (text : List ℕ) (c : Compiled) (before : List Event) (ended : List ℕ) (cap : ℕ) (life : Course) →
    IsCompiledAs log text c → let file = left_by (translation_in c) before in
    ((h : ℕ) → slice_index_or ended h 0 ≡ ended_lives (flat_of c.flat) (start (flat_of c.flat)) (all_lives file.kept) h) →
    opening_of life ≡ opening_of (life_from c.translated.object c.translated.marks file.words file.kept ended cap) → CountsEnded (flat_of c.flat) life
