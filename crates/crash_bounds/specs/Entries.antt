-- Laws of compiled programs after a crash: how soon recovery is entered.
use Rattle.std.specs.Prelude.{ℕ, ◌+◌, List, ◌∷◌, ◌++◌, length}
use Rattle.machine_events.specs.declared.event.Event.{Event}
use Rattle.machine_events.specs.declared.event.Event.TheVariants.{Crash}
use Rattle.eviction_laws.specs.Evictions.{NoneEnters}
use Rattle.compiler_correctness.specs.Translations.{HaveNoCrash, Translation, world}
use Rattle.compiler_correctness.specs.Compilations.{IsCompilation}
use Rattle.compiler_correctness.specs.Images.{Image, world_from}
use Rattle.compiler_correctness.specs.WordRuns.{RunsOn}
use Rattle.crash_bounds.specs.Rounds.{HoldRounds, KeepsAtMost}

-- After a crash, and without another, within as many rounds as a record has locks at most, and 3, no hart takes locks, waits for those that do or is about to
-- be resumed.
abbrev pub RecoveryIsEntered : Type 0
RecoveryIsEntered = (c : Translation) → IsCompilation c → (most : ℕ) → KeepsAtMost c.runs.log most → (before events : List Event) → HaveNoCrash events →
    HoldRounds (length c.runs.program) (most + 3) events → NoneEnters (world c (before ++ Crash ∷ events))

-- in a run, too, that begins with the words of an image, whoever left them, if it runs on
abbrev pub ImagesAreEntered : Type 0
ImagesAreEntered = (c : Translation) (image : Image) → RunsOn c image → (most : ℕ) → KeepsAtMost c.runs.log most → (events : List Event) →
    HaveNoCrash events → HoldRounds (length c.runs.program) (most + 3) events → NoneEnters (world_from c image events)
