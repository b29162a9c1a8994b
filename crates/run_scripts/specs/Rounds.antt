-- Rounds over the harts of a core.
use Rattle.std.specs.Prelude.{◌≡◌, ℕ, zero, suc, ◌-◌, ◌<◌, min, List, [], ◌∷◌, ◌++◌, true, false}
use Rattle.machine_events.specs.declared.event.Event.{Event}
use Rattle.machine_events.specs.declared.event.Event.TheVariants.{Step}
use Rattle.machine_events.specs.Cores.{Behaviour, played}

-- a step of each of so many harts, in ascending order
abbrev pub round_of : (harts : ℕ) → List Event
round_of zero = []
round_of (suc hart) = round_of hart ++ Step hart ∷ []

module _ {M : Type 0} (b : Behaviour M) (harts : ℕ) where
  -- each hart has ended, or its recovery is done
  abbrev pub AreAllStopped : M → Type 0
  AreAllStopped m = (hart : ℕ) → hart < harts → b.is_stopped m hart ≡ true

  -- some hart hasn't, and isn't
  abbrev pub IsOneGoing : M → Type 0
  IsOneGoing m = (hart : ℕ) × (hart < harts) × (b.is_stopped m hart ≡ false)

  -- What is made from there on in rounds, a step of each hart in turn, also of one that is stopped: until all are stopped before a round, or so many steps
  -- are made, where the last round may be cut short.
  pub data AreWholeRounds : (left : ℕ) → M → List Event → Type 0 where
    all_stopped : (left : ℕ) (m : M) → AreAllStopped m → AreWholeRounds left m []
    none_left : (m : M) → AreWholeRounds 0 m []
    round : (left : ℕ) (m : M) (rest : List Event) → 0 < left → IsOneGoing m →
        AreWholeRounds (left - min left harts) (played b m (round_of (min left harts))) rest → AreWholeRounds left m (round_of (min left harts) ++ rest)

  -- rounds after these events came to those
  pub record HasRounds (most : ℕ) (opening : M) (before after : List Event) : Type 0 where
    pub made : List Event
    pub is : after ≡ before ++ made
    pub rounds : AreWholeRounds most (played b opening before) made
