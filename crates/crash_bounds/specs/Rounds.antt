-- How soon recovery is entered: in how many rounds over the harts.
use Rattle.std.specs.Prelude.{◌≡◌, ℕ, suc, ◌+◌, ◌<◌, ◌≤◌, List, [], ◌∷◌, ◌++◌, length}
use Rattle.machine_events.specs.declared.event.Event.{Event}
use Rattle.log_schemes.specs.declared.log.Log.{Log}
use Rattle.log_schemes.specs.declared.keeping.Keeping.TheVariants.{Masked, Listed}
use Rattle.log_schemes.specs.Schemes.{keeping_of}
use Rattle.ido_base.specs.Words.{Word}
use Rattle.machine_model.specs.Machine.{record_of}
use Rattle.hart_runs.specs.Laws.{own_steps}

-- each of so many harts makes a step, or more, in whatever order, and anything may happen between
abbrev pub IsRound : (harts : ℕ) → List Event → Type 0
IsRound harts events = (h : ℕ) → h < harts → 1 ≤ own_steps h events

-- the events begin with so many rounds
pub data HoldRounds (harts : ℕ) : (rounds : ℕ) → List Event → Type 0 where
  no_more : (events : List Event) → HoldRounds harts 0 events
  one_more : (rounds : ℕ) (round rest : List Event) → IsRound harts round → HoldRounds harts rounds rest → HoldRounds harts (suc rounds) (round ++ rest)

-- no record of such a log has more locks, whatever its words
abbrev pub KeepsAtMost : Log → (most : ℕ) → Type 0
KeepsAtMost log most = (words : List Word) (thread : ℕ) → length (record_of log words thread) ≤ most

-- ---- Laws

-- a bank lists 16 locks at most, and a mask has 64
abbrev pub ListsKeepSixteen : Type 0
ListsKeepSixteen = (log : Log) → keeping_of log ≡ Listed → KeepsAtMost log 16

abbrev pub MasksKeepSixtyFour : Type 0
MasksKeepSixtyFour = (log : Log) → keeping_of log ≡ Masked → KeepsAtMost log 64
