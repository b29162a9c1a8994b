-- Lives of texts whose threads take their locks in their order.
use Rattle.std.specs.Prelude.{◌≡◌, ◌↔◌, ℕ, List, length, None}
use Rattle.machine_events.specs.Cores.{least_enabled, played}
use Rattle.c_tree.specs.Flats.{flat_of}
use Rattle.deadlock_freedom.specs.Deadlocks.{HaveStopped}
use Rattle.ido_compile.specs.declared.compiler.Compiled.{Compiled}
use Rattle.ido_compile.specs.CompileAnswers.{IsCompiledAs, translation_in}
use Rattle.log_schemes.specs.declared.log.Log.{Log}
use Rattle.machine_events.specs.declared.event.Event.{Event}
use Rattle.image_checks.specs.RunImages.{left_by}
use Rattle.lock_order.specs.LockOrder.{order_fault}
use Rattle.run_tracker.specs.ObjectLives.{Course, life_from, living, new_life, opening_of, world_of}

-- whatever events such a life makes: no hart is enabled exactly where each has ended or is done with its recovery
abbrev pub OrderedLivesGoOn : Type 0
OrderedLivesGoOn = (log : Log) (text : List ℕ) (c : Compiled) (cap : ℕ) (life : Course) → IsCompiledAs log text c → order_fault (flat_of c.flat) ≡ None →
    opening_of life ≡ opening_of (new_life c.translated.object c.translated.marks cap) →
    (least_enabled living (played living (opening_of life) life.journal) (length life.runs.program) ≡ None) ↔ HaveStopped (world_of life)

-- and so it is of a life that began with the file which a run of the same translation has left
abbrev pub OrderedLivesOfFilesGoOn : Type 0
OrderedLivesOfFilesGoOn = (log : Log) (text : List ℕ) (c : Compiled) (before : List Event) (ended : List ℕ) (cap : ℕ) (life : Course) →
    IsCompiledAs log text c → order_fault (flat_of c.flat) ≡ None → let file = left_by (translation_in c) before in
    opening_of life ≡ opening_of (life_from c.translated.object c.translated.marks file.words file.kept ended cap) →
    (least_enabled living (played living (opening_of life) life.journal) (length life.runs.program) ≡ None) ↔ HaveStopped (world_of life)
