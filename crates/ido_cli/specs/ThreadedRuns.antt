-- Runs on threads: legs, the crashes between them, and rounds of the caller.
use Rattle.std.specs.Prelude.{◌≡◌, ℕ, ◌+◌, ◌-◌, ◌<◌, ◌≤◌, List, [], ◌∷◌, ◌++◌, length, count_by, min, Bool, true, false, Option, Some, None, option_map}
use Rattle.std.specs.Prelude.{◌==◌, if◌then◌else◌}
use Rattle.machine_events.specs.declared.event.Event.{Event}
use Rattle.machine_events.specs.declared.event.Event.TheVariants.{Step, Evict, Crash, Start}
use Rattle.log_schemes.specs.declared.log.Log.{Log}
use Rattle.machine_events.specs.Cores.{played}
use Rattle.compiler_correctness.specs.Translations.{Translation}
use Rattle.hart_driver.specs.Legs.{Leg, IsLeg}
use Rattle.run_scripts.specs.Draws.{drawn_evictions}
use Rattle.run_tracker.specs.ObjectLives.{LifeConfig, is_stopped, living}
use Rattle.ido_cli.specs.Draws.{variable_lines}

-- events of a run at most, crashes apart
abbrev pub most_leg_events : ℕ
most_leg_events = 3999000

-- turns of each hart in the leg of `load`
abbrev pub load_turns : ℕ
load_turns = 200000

abbrev pub is_crash : Event → Bool
is_crash (Step hart) = false
is_crash (Evict line mask) = false
is_crash Crash = true
is_crash Start = false

abbrev pub is_eviction : Event → Bool
is_eviction (Step hart) = false
is_eviction (Evict line mask) = true
is_eviction Crash = false
is_eviction Start = false

-- ---- Legs

-- the moment of the leg that comes after these events: 3,999,000 events and the crashes so far; or as many as its crash word more, where that is less
abbrev pub moment_after : (before : List Event) → (word : Option ℕ) → ℕ
moment_after before None = most_leg_events + count_by is_crash before
moment_after before (Some word) = min (length before + word) (most_leg_events + count_by is_crash before)

-- what a stream still has after so many of its evictions
abbrev pub evictions_from : (ℕ → ℕ × ℕ) → (over : ℕ) → ℕ → ℕ × ℕ
evictions_from stream over n = stream (n + over)

module _ (opening : LifeConfig) (turns : ℕ) (stream : Option (ℕ → ℕ × ℕ)) where
  -- The leg that comes after these events of a machine that began so. The evictions of all legs are those of one stream, in their order.
  abbrev pub leg_after : (before : List Event) → (word : Option ℕ) → Leg LifeConfig
  leg_after before word = record {
    behaviour = living;
    opening = played living opening before;
    harts = length opening.runs.program;
    turns = turns;
    most = moment_after before word - length before;
    evictions = option_map (λ s. evictions_from s (count_by is_eviction before)) stream;
  }

  -- what comes after these events: for each crash word a leg with that word and a crash, and then a leg without one
  pub data AreLegs : (words : List ℕ) → (before journal : List Event) → Type 0 where
    last : (before leg : List Event) → IsLeg (leg_after before None) leg → AreLegs [] before leg
    crashed : (word : ℕ) (words : List ℕ) (before leg rest : List Event) → IsLeg (leg_after before (Some word)) leg →
        AreLegs words (before ++ leg ++ Crash ∷ []) rest → AreLegs (word ∷ words) before (leg ++ Crash ∷ rest)

-- The evictions that a seed draws at so many threads, which log so, and lines of variables, where there is a seed. Where there are no threads there is no
-- worker, and none for evictions.
abbrev pub evictions_at : Log → (threads lines : ℕ) → (seed : Option ℕ) → Option (ℕ → ℕ × ℕ)
evictions_at log threads lines seed = if threads == 0 then None else option_map (λ s. drawn_evictions s log threads lines) seed

-- those of a translation's machine
abbrev pub evictions_by : Translation → (seed : Option ℕ) → Option (ℕ → ℕ × ℕ)
evictions_by c seed = evictions_at c.runs.log (length c.runs.program) (variable_lines c) seed

-- ---- Rounds of the caller

module _ (opening : LifeConfig) where
  abbrev pub is_stopped_after : (events : List Event) → (hart : ℕ) → Bool
  is_stopped_after events hart = is_stopped (played living opening events).world hart

  -- What is made in rounds over the harts after these events of a machine that began so, where it is the turn of this hart: a step of each hart that isn't
  -- stopped, until all are, or until there are 3,999,000 events.
  pub data AreRounds : (hart : ℕ) → (before made : List Event) → Type 0 where
    all_stopped : (hart : ℕ) (before : List Event) → ((h : ℕ) → h < length opening.runs.program → is_stopped_after before h ≡ true) → AreRounds hart before []
    full : (hart : ℕ) (before : List Event) → most_leg_events ≤ length before → AreRounds hart before []
    passes : (hart : ℕ) (before made : List Event) → hart < length opening.runs.program → is_stopped_after before hart ≡ true →
        AreRounds (hart + 1) before made → AreRounds hart before made
    steps : (hart : ℕ) (before made : List Event) → hart < length opening.runs.program → is_stopped_after before hart ≡ false →
        length before < most_leg_events → AreRounds (hart + 1) (before ++ Step hart ∷ []) made → AreRounds hart before (Step hart ∷ made)
    next_round : (before made : List Event) → AreRounds 0 before made → AreRounds (length opening.runs.program) before made

-- all of `load`: a leg, and what is left of it in rounds
pub record IsLoadedRun (opening : LifeConfig) (journal : List Event) : Type 0 where
  pub leg : List Event
  pub rest : List Event
  pub is : journal ≡ leg ++ rest
  pub on_threads : IsLeg (leg_after opening load_turns None [] None) leg
  pub in_rounds : AreRounds opening 0 leg rest
