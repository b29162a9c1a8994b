-- A leg that is under way.
use Rattle.std.specs.Prelude.{◌≡◌, ℕ, ◌+◌, ◌<◌, ◌≤◌, List, ◌∷◌, ◌++◌, [], length, map, drop, true, Option, Some, slice_index}
use Rattle.machine_events.specs.declared.event.Event.{Event}
use Rattle.machine_events.specs.Cores.{Behaviour, IsValid}
use Rattle.hart_board.specs.BoardRule.{numbers_from}
use Rattle.hart_board.specs.CoreTurns.{IsPlayed}
use Rattle.hart_driver.specs.declared.start.Start.{Start}
use Rattle.hart_driver.specs.declared.stop.Stop.{Stop}
use Rattle.hart_driver.specs.Legs.{Leg, AreTurns, IsTurn, is_event_of, made, stop_of, workers}
use Rattle.hart_driver.specs.Driven.{HasAdvanced, leg_of}

module _ {C V : Type 0} (history : C → List Event) where
  -- the events since the leg began
  abbrev pub since : Start C V → C → List Event
  since s core = drop (length (history s.core.value)) (history core)

-- all evictions that are to come are valid, and the core has room up to the moment
pub record CanDrive {C V : Type 0} (history : C → List Event) (space : C → ℕ) (evictable : C → ℕ → ℕ → Type 0) (coming : V → ℕ → ℕ × ℕ) (core : C)
    (moment : ℕ) (evict : Option V) : Type 0 where
  pub begun : length (history core) ≤ moment
  pub reached : moment ≤ length (history core) + space core
  pub valid : (v : V) (n : ℕ) → evict ≡ Some v → evictable core (coming v n).0 (coming v n).1

module _ {C M V : Type 0} (b : Behaviour M) (opening : C → M) (history : C → List Event) (hart_count : C → ℕ) (coming : V → ℕ → ℕ × ℕ) where
  -- what the leg began with
  abbrev pub leg_from : Start C V → Leg M
  leg_from s = leg_of b opening history hart_count coming s.core.value s.turns s.moment s.evict.value

  -- the first so many workers have these stops
  abbrev pub AreStops : Start C V → C → (count : ℕ) → List Stop → Type 0
  AreStops s core count stops = map Some stops ≡ map (λ worker. stop_of (leg_from s) worker (since history s core)) (numbers_from 0 count)

  -- the events so far are turns, and are counted. The core has had so many as its moment at most
  pub record IsUnderWay (space : C → ℕ) (evictable : C → ℕ → ℕ → Type 0) (s : Start C V) (core : C) (counts : List ℕ) (evict : Option V) : Type 0 where
    pub drives : CanDrive history space evictable coming s.core.value s.moment s.evict.value
    pub plays : IsPlayed opening history hart_count space evictable s.core.value (since history s core) core
    pub each : AreTurns (leg_from s) (since history s core)
    pub within : length (history core) ≤ s.moment
    pub size : length counts ≡ workers (leg_from s)
    pub counted : (w : ℕ) → w < workers (leg_from s) → slice_index counts w ≡ made (leg_from s) w (since history s core)
    pub advanced : HasAdvanced coming s.evict.value (made (leg_from s) (hart_count s.core.value) (since history s core)) evict

module _ {C M V : Type 0} (hart_count : C → ℕ) (coming : V → ℕ → ℕ × ℕ) (evictable : C → ℕ → ℕ → Type 0) where
  -- the event may come after these, and is the worker's. An eviction is over with it
  pub record IsNext (s : Start C V) (leg : Leg M) (before : List Event) (worker : ℕ) (event : Event) (evict : Option V) : Type 0 where
    pub turn : IsTurn leg before event
    pub own : is_event_of leg.harts worker event ≡ true
    pub valid : IsValid (hart_count s.core.value) (evictable s.core.value) event
    pub advanced : HasAdvanced coming s.evict.value (made leg (hart_count s.core.value) (before ++ event ∷ [])) evict
