-- What a leg of a core leaves.
use Rattle.std.specs.Prelude.{◌≡◌, ℕ, ◌+◌, ◌-◌, List, length, map, Option, Some, None}
use Rattle.machine_events.specs.declared.event.Event.{Event}
use Rattle.machine_events.specs.Cores.{Behaviour, played}
use Rattle.hart_board.specs.BoardRule.{numbers_from}
use Rattle.hart_board.specs.CoreTurns.{IsPlayed}
use Rattle.hart_driver.specs.declared.stop.Stop.{Stop}
use Rattle.hart_driver.specs.Legs.{Leg, IsLeg, made, stop_of, workers}

module _ {V : Type 0} (coming : V → ℕ → ℕ × ℕ) where
  -- the evictions that are still to come
  abbrev pub evictions_of : Option V → Option (ℕ → ℕ × ℕ)
  evictions_of None = None
  evictions_of (Some v) = Some (coming v)

  -- so many of the evictions are over, and those after them are still to come
  abbrev pub HasAdvanced : Option V → (count : ℕ) → Option V → Type 0
  HasAdvanced None count None = Unit {0}
  HasAdvanced (Some v) count (Some w) = (n : ℕ) → coming w n ≡ coming v (n + count)
  HasAdvanced None count (Some w) = ⊥
  HasAdvanced (Some v) count None = ⊥

module _ {C M V : Type 0} (b : Behaviour M) (opening : C → M) (history : C → List Event) (hart_count : C → ℕ) (coming : V → ℕ → ℕ × ℕ) where
  -- what a leg of this core begins with, where a worker makes at most so many events, and none is made once the core has had as many as its moment
  abbrev pub leg_of : C → (turns moment : ℕ) → Option V → Leg M
  leg_of core turns moment evict = record {
    behaviour = b;
    opening = played b (opening core) (history core);
    harts = hart_count core;
    turns = turns;
    most = moment - length (history core);
    evictions = evictions_of coming evict;
  }

  -- the leg left this core. Each worker has its stop, and each eviction of the leg is over
  pub record IsDriven (space : C → ℕ) (evictable : C → ℕ → ℕ → Type 0) (core : C) (turns moment : ℕ) (evict : Option V) (left : C) (stops : List Stop)
      (evict_left : Option V) : Type 0 where
    pub journal : List Event
    pub plays : IsPlayed opening history hart_count space evictable core journal left
    pub leg : IsLeg (leg_of core turns moment evict) journal
    pub stops_are : map Some stops ≡ map (λ worker. stop_of (leg_of core turns moment evict) worker journal)
        (numbers_from 0 (workers (leg_of core turns moment evict)))
    pub advanced : HasAdvanced coming evict (made (leg_of core turns moment evict) (hart_count core) journal) evict_left
