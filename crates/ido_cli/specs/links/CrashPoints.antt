-- The points of a script at which power may be lost, and what a life comes to from there.
use Rattle.std.specs.Prelude.{◌≡◌, ℕ, ◌≤◌, List, [], ◌∷◌, ◌++◌, length, map, take, All, Option, Some, None, Result, Ok, Err}
use Rattle.machine_events.specs.declared.event.Event.{Event}
use Rattle.machine_events.specs.declared.event.Event.TheVariants.{Crash}
use Rattle.machine_events.specs.Cores.{played}
use Rattle.c_tree.specs.Flats.{flat_of}
use Rattle.compiler_correctness.specs.Compilations.{IsCompilation}
use Rattle.flat_compile.specs.TranslatedForms.{IsTranslatedAs}
use Rattle.hart_driver.specs.declared.sweep.Outcome.{Outcome}
use Rattle.c_tree.specs.declared.flat.Flat.{Flat}
use Rattle.flat_compile.specs.declared.compile.Translated.{Translated}
use Rattle.compiler_correctness.specs.Translations.{Translation, translation_to}
use Rattle.machine_model.specs.Machine.{IsEviction}
use Rattle.run_scripts.specs.declared.few.Excess.{Excess}
use Rattle.run_scripts.specs.declared.script.Script.{Script}
use Rattle.ido_base.specs.declared.limits.TheConstants.{MOST_EVENTS}
use Rattle.run_scripts.specs.Plays.{PlayFault, fault_within}
use Rattle.run_scripts.specs.Rounds.{AreWholeRounds}
use Rattle.run_scripts.specs.Scripts.{IsDoable, Line}
use Rattle.run_scripts.specs.links.ScriptViews as scripts
use Rattle.run_tracker.specs.ObjectLives.{Course, living, opening_of}
use Rattle.ido_cli.specs.declared.sweep.CrashPoints.{CrashPoints}
use Rattle.ido_cli.specs.Plays.{beginning, events_by}
use Rattle.ido_cli.specs.Sweeps.{IsOutcomeOf, most_round_steps, most_sweep_events}

-- the script is one for a compilation's machine
pub record CanSweep (flat : Flat) (translated : Translated) (script : Script) : Type 0 where
  pub translated_is : IsTranslatedAs translated.object.log (flat_of flat) translated.object translated.marks translated.cuts
  pub compilation : IsCompilation (translation_to (flat_of flat) translated.object translated.marks translated.cuts)
  pub doable : let threads = length translated.object.code.items in
      All (λ line. IsDoable threads (IsEviction translated.object.log threads) line.command) script.lines.items

abbrev pub lines_in : Script → List Line
lines_in script = map scripts.line_of script.lines.items

abbrev pub translation_at : CrashPoints → Translation
translation_at points = translation_to (flat_of points.flat) points.translated.object points.translated.marks points.translated.cuts

-- there is such a point
abbrev pub HasPoint : CrashPoints → (k : ℕ) → Type 0
HasPoint points k = CanSweep points.flat points.translated points.script

-- what becomes of the run from that point on
abbrev pub IsOutcomeAt : CrashPoints → (k : ℕ) → Outcome → Type 0
IsOutcomeAt points k o = IsOutcomeOf (translation_at points) (events_by (translation_at points) (lines_in points.script)) k o

-- the life has made so many of the script's events, a crash, and rounds
pub record HasLivedTo (points : CrashPoints) (k : ℕ) (life : Course) : Type 0 where
  pub begins : opening_of life ≡ beginning (translation_at points)
  pub rounds : List Event
  pub journal : life.journal ≡ take k (events_by (translation_at points) (lines_in points.script)) ++ Crash ∷ rounds
  pub in_rounds : AreWholeRounds living (length (translation_at points).runs.program) most_round_steps
      (played living (beginning (translation_at points)) (take k (events_by (translation_at points) (lines_in points.script)) ++ Crash ∷ [])) rounds

-- the script makes so many events, which are few
pub record HasAllPoints (points : CrashPoints) (last : ℕ) : Type 0 where
  pub can : CanSweep points.flat points.translated points.script
  pub all : length (events_by (translation_at points) (lines_in points.script)) ≡ last
  pub few : last ≤ most_sweep_events

-- the first fault of a script of few events
abbrev pub sweep_fault : Translation → List Line → Option PlayFault
sweep_fault c lines = fault_within living (length c.runs.program) (beginning c) MOST_EVENTS most_sweep_events lines

-- what is told of a script: how many events it makes, or its first fault
abbrev pub IsCounted : Translation → Script → Result ℕ Excess → Type 0
IsCounted c script (Ok count) =
    (length (events_by c (lines_in script)) ≡ count) × (count ≤ most_sweep_events) × (sweep_fault c (lines_in script) ≡ None)
IsCounted c script (Err excess) = sweep_fault c (lines_in script) ≡ Some (scripts.few_fault_of excess)
