-- What is said of every point of a script at which power may be lost.
use Rattle.std.specs.Prelude.{◌≡◌, ◌≢◌, ℕ, ◌+◌, ◌≤◌, List, [], ◌∷◌, ◌++◌, length, map, replicate, take, Bool, true, false, slice_get, Some, None}
use Rattle.std.specs.Prelude.{◌&&◌, codes, decimal}
use Rattle.ido_base.specs.declared.limits.TheConstants.{MOST_EVENTS}
use Rattle.machine_events.specs.declared.event.Event.{Event}
use Rattle.machine_events.specs.declared.event.Event.TheVariants.{Crash}
use Rattle.machine_events.specs.Cores.{played}
use Rattle.compiler_correctness.specs.Translations.{Translation}
use Rattle.hart_driver.specs.declared.sweep.Outcome.{Outcome}
use Rattle.hart_driver.specs.Outcomes.{AreOutcomes}
use Rattle.run_scripts.specs.Plays.{PlayFault, fault_within}
use Rattle.run_scripts.specs.Reports.{line}
use Rattle.run_scripts.specs.Rounds.{AreWholeRounds}
use Rattle.run_tracker.specs.ObjectLives.{living}
use Rattle.ido_cli.specs.Plays.{IsRunBy, PlacedScript, beginning, events_by}
use Rattle.ido_cli.specs.Refusals.{IsRefusedAt, play_fault_code, play_fault_place}

-- events of the script at most
abbrev pub most_sweep_events : ℕ
most_sweep_events = 10000

-- steps after a crash at most
abbrev pub most_round_steps : ℕ
most_round_steps = 1000000

-- ---- Outcomes

abbrev pub status_of : (settled : Bool) → ℕ
status_of true = 0
status_of false = 3

-- The outcome where power is lost after so many of the events: the report of the run whose events are these, a crash, and rounds
-- over the harts.
pub record IsOutcomeOf (c : Translation) (events : List Event) (k : ℕ) (outcome : Outcome) : Type 0 where
  pub rounds : List Event
  pub in_rounds : AreWholeRounds living (length c.runs.program) most_round_steps (played living (beginning c) (take k events ++ Crash ∷ [])) rounds
  pub told : IsRunBy c (take k events ++ Crash ∷ rounds) (status_of outcome.settled) outcome.report

-- ---- The table

abbrev pub reports_of : List Outcome → List (List ℕ)
reports_of outcomes = map (λ o. o.report) outcomes

-- `from A to B` and the report of these points
unfoldable pub run_text : (first last : ℕ) → (report : List ℕ) → List ℕ
run_text first last report = line (codes "from " ++ decimal first ++ codes " to " ++ decimal last) ++ report

-- The text of reports, the first of them that of this point: for each longest run of equal reports, byte for byte, its lines.
pub data IsTable : (first : ℕ) → (reports : List (List ℕ)) → (text : List ℕ) → Type 0 where
  no_more : (first : ℕ) → IsTable first [] []
  longest_run : (first more : ℕ) (report : List ℕ) (rest : List (List ℕ)) (text : List ℕ) → slice_get rest 0 ≢ Some report →
      IsTable (first + more + 1) rest text → IsTable first (replicate (more + 1) report ++ rest) (run_text first (first + more) report ++ text)

abbrev pub are_settled : List Outcome → Bool
are_settled [] = true
are_settled (o ∷ os) = o.settled && are_settled os

-- The outcomes of all points from none of the events to all of them, as one thread finds them one after another. The status is 3 exactly where some
-- outcome isn't settled, else 0.
pub record IsSweep (c : Translation) (events : List Event) (status : ℕ) (output : List ℕ) : Type 0 where
  pub outcomes : List Outcome
  pub all : AreOutcomes (IsOutcomeOf c events) 0 (length events + 1) outcomes
  pub status_is : status ≡ status_of (are_settled outcomes)
  pub output_is : IsTable 0 (reports_of outcomes) output

-- ---- A script

-- What a script that begins at a place of an input is answered: a refusal at the first line that can't be played so: E1 where the events up to its own pass
-- 4,000,000, else E6 where no life may begin by it, else E7 where they pass 10,000; or the sweep of its events.
pub data SweptScript (c : Translation) (script : PlacedScript) (status : ℕ) (output : List ℕ) : Type 0 where
  faulty : (fault : PlayFault) →
      fault_within living (length c.runs.program) (beginning c) MOST_EVENTS most_sweep_events script.lines ≡ Some fault →
      IsRefusedAt 6 (play_fault_code fault) script.input (script.begins + play_fault_place fault) status output → SweptScript c script status output
  swept : fault_within living (length c.runs.program) (beginning c) MOST_EVENTS most_sweep_events script.lines ≡ None →
      length (events_by c script.lines) ≤ most_sweep_events → IsSweep c (events_by c script.lines) status output → SweptScript c script status output
