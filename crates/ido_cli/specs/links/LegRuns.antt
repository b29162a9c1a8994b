-- A life that runs legs on threads, and rounds after them.
use Rattle.std.specs.Prelude.{◌≡◌, ℕ, ◌+◌, ◌-◌, ◌<◌, ◌≤◌, ◌^◌, List, [], ◌∷◌, ◌++◌, length, count_by, drop, min, flat_map, All, Option, Some, true, false, Bool}
use Rattle.std.specs.Prelude.{ℤ, pos, neg_ℤ, ◌≤ℤ◌}
use Rattle.machine_events.specs.declared.event.Event.{Event}
use Rattle.machine_events.specs.declared.event.Event.TheVariants.{Crash}
use Rattle.ido_base.specs.declared.limits.TheConstants.{MOST_THREADS, MOST_VARIABLE_BYTES}
use Rattle.c_tree.specs.Flats.{Flat}
use Rattle.compiler_correctness.specs.Translations.{Translation}
use Rattle.machine_model.specs.Machine.{IsEviction}
use Rattle.hart_driver.specs.Driven.{HasAdvanced, evictions_of as coming_of, leg_of}
use Rattle.hart_driver.specs.Legs.{Leg, IsLeg}
use Rattle.run_scripts.specs.declared.evictor.Evictor.{Evictor}
use Rattle.run_scripts.specs.Reports.{ReportedState, numbers_in}
use Rattle.run_scripts.specs.links.Evictors.{evictions_of}
use Rattle.run_scripts.specs.Journals.{journal_text}
use Rattle.machine_model.specs.Schedule.{schedules}
use Rattle.run_tracker.specs.ObjectLives.{Course, LifeConfig, living, opening_of, steps_in, world_of}
use Rattle.ido_cli.specs.declared.live.Run.{Run}
use Rattle.ido_cli.specs.Answers.{IsTold}
use Rattle.ido_cli.specs.Loads.{IsSummaryOf}
use Rattle.ido_cli.specs.Plays.{beginning}
use Rattle.ido_cli.specs.Reports.{machine_state}
use Rattle.ido_cli.specs.Runs.{IsReport}
use Rattle.ido_cli.specs.ThreadedRuns.{AreLegs, AreRounds, IsLoadedRun, evictions_by, is_crash, is_eviction, is_stopped_after, most_leg_events}

-- ---- Legs

-- there is room for so many events in all, and there are few harts, at which all evictions are valid
pub record CanRun (all : ℕ) (run : Run) : Type 0 where
  pub room : all ≤ length run.life.journal + (run.life.cap - length run.life.journal)
  pub few : length run.life.runs.program ≤ MOST_THREADS
  pub valid : (v : Evictor) → run.evict ≡ Some v → (n : ℕ) →
      IsEviction run.life.runs.log (length run.life.runs.program) (evictions_of v n).0 (evictions_of v n).1

-- what a leg of the run begins with
abbrev pub leg_from : (turns moment : ℕ) → Course → Option Evictor → Leg LifeConfig
leg_from turns moment life evict = leg_of living opening_of (λ x. x.journal) (λ x. length x.runs.program) evictions_of life turns moment evict

-- the run has become this one by a leg, which ends so many events after its beginning at the latest, and where there are so many in all; and a crash
pub record HasCrashed (turns word most : ℕ) (run left : Run) : Type 0 where
  pub leg : List Event
  pub is : IsLeg (leg_from turns (min (length run.life.journal + word) most) run.life run.evict) leg
  pub opens : opening_of left.life ≡ opening_of run.life
  pub journal : left.life.journal ≡ run.life.journal ++ leg ++ Crash ∷ []
  pub room : length left.life.journal + (left.life.cap - length left.life.journal) ≡ length run.life.journal + (run.life.cap - length run.life.journal)
  pub advanced : HasAdvanced evictions_of run.evict (count_by is_eviction leg) left.evict

-- after a leg and a crash for each of the first so many words
pub record IsBetween (turns : ℕ) (words : List ℕ) (begun : Run) (made most : ℕ) (run : Run) : Type 0 where
  pub opens : opening_of run.life ≡ opening_of begun.life
  pub room : most_leg_events + length words ≤ length run.life.journal + (run.life.cap - length run.life.journal)
  pub most_is : most ≡ most_leg_events + made
  pub crashes : count_by is_crash run.life.journal ≡ made
  pub within : length run.life.journal ≤ most
  pub advanced : HasAdvanced evictions_of begun.evict (count_by is_eviction run.life.journal) run.evict
  pub legs : (rest : List Event) → AreLegs (opening_of begun.life) turns (coming_of evictions_of begun.evict) (drop made words) run.life.journal rest →
      AreLegs (opening_of begun.life) turns (coming_of evictions_of begun.evict) words [] (run.life.journal ++ rest)

-- the life is what is left of such a run after all legs
pub record HasRunLegs (turns : ℕ) (words : List ℕ) (begun : Run) (life : Course) : Type 0 where
  pub opens : opening_of life ≡ opening_of begun.life
  pub legs : AreLegs (opening_of begun.life) turns (coming_of evictions_of begun.evict) words [] life.journal

-- ---- Rounds

-- from the turn of the one hart to that of the other these events came about
pub record LeadsTo (opening : LifeConfig) (from : ℕ) (before : List Event) (to : ℕ) (after : List Event) : Type 0 where
  pub made : List Event
  pub is : after ≡ before ++ made
  pub then : (rest : List Event) → AreRounds opening to after rest → AreRounds opening from before (made ++ rest)

-- rounds after these events came to those
pub record HasRounds (opening : LifeConfig) (before after : List Event) : Type 0 where
  pub made : List Event
  pub is : after ≡ before ++ made
  pub rounds : AreRounds opening 0 before made

-- no harts below this one could make an event: they are stopped, or there are enough events
pub data AreQuiet (opening : LifeConfig) (events : List Event) (below : ℕ) : Type 0 where
  enough : most_leg_events ≤ length events → AreQuiet opening events below
  stopped : ((h : ℕ) → h < below → is_stopped_after opening events h ≡ true) → AreQuiet opening events below

-- none was made, or there are more events than before
pub data IsQuiet (opening : LifeConfig) (before : List Event) (below : ℕ) (after : List Event) : Type 0 where
  quiet : after ≡ before → AreQuiet opening before below → IsQuiet opening before below after
  more : length before < length after → length before < most_leg_events → IsQuiet opening before below after

-- ---- What is said

-- what is said of a life: its report, or an input of `play` that makes its events again
abbrev pub IsSaidOf : (journal : Bool) → (source : List ℕ) → Flat → Course → (status : ℕ) → (output : List ℕ) → Type 0
IsSaidOf false source flat life status output = IsReport (machine_state flat (world_of life) (schedules (steps_in life))) status output
IsSaidOf true source flat life status output = (status ≡ 0) × (output ≡ journal_text source life.journal)

-- what is said of a run of a translation on threads
pub record IsLiveRun (c : Translation) (turns : ℕ) (crashes : List ℕ) (evict : Option ℕ) (journal : Bool) (source : List ℕ) (status : ℕ) (output : List ℕ) :
    Type 0 where
  pub events : List Event
  pub legs : AreLegs (beginning c) turns (evictions_by c evict) crashes [] events
  pub told : IsTold journal source c events status output

-- what is said of such a run and rounds after it
pub record IsLoad (c : Translation) (status : ℕ) (output : List ℕ) : Type 0 where
  pub events : List Event
  pub run : IsLoadedRun (beginning c) events
  pub summed : IsSummaryOf c events status output

-- ---- Sums

-- a number of 64 bits, with a sign or without
abbrev pub IsSmall : ℤ → Type 0
IsSmall z = (neg_ℤ (pos (2 ^ 64)) ≤ℤ z) × (z ≤ℤ pos (2 ^ 64))

-- the numbers of all elements
abbrev pub numbers_of : ReportedState → List ℤ
numbers_of s = flat_map numbers_in s.variables

-- its sums fit
pub record IsSummable (s : ReportedState) : Type 0 where
  pub threads : length s.ended ≤ MOST_THREADS
  pub few : length (numbers_of s) ≤ MOST_VARIABLE_BYTES
  pub small : All IsSmall (numbers_of s)
