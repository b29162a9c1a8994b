-- A leg of a core's run: events of its workers, in whatever order, until each of them has a stop.
use Rattle.std.specs.Prelude.{◌≡◌, ◌≢◌, ℕ, ◌+◌, ◌<◌, List, ◌∷◌, ◌++◌, length, count_by, Bool, false, nat_lt, ◌==◌, ◌&&◌, Option, Some, None}
use Rattle.std.specs.Prelude.{if◌then◌else◌}
use Rattle.machine_events.specs.declared.event.Event.{Event}
use Rattle.machine_events.specs.declared.event.Event.TheVariants.{Step, Evict, Crash, Start}
use Rattle.machine_events.specs.Cores.{Behaviour, played}
use Rattle.hart_driver.specs.declared.stop.Stop.{Stop}
use Rattle.hart_driver.specs.declared.stop.Stop.TheVariants.{Ended, Turns, Moment}

-- the event is one of this worker: a step of its hart, or an eviction, where it is the worker after those of so many harts
abbrev pub is_event_of : (harts worker : ℕ) → Event → Bool
is_event_of harts worker (Step hart) = hart == worker
is_event_of harts worker (Evict line mask) = harts == worker
is_event_of harts worker Crash = false
is_event_of harts worker Start = false

-- what a leg begins with
pub record Leg (M : Type 0) : Type 0 where
  pub behaviour : Behaviour M
  pub opening : M
  pub harts : ℕ
  -- events of a worker at most
  pub turns : ℕ
  -- events of all workers at most
  pub most : ℕ
  -- where there is a worker for evictions: line and mask of each, by its number from 0 on
  pub evictions : Option (ℕ → ℕ × ℕ)

module _ {M : Type 0} (leg : Leg M) where
  -- the worker of each hart, and after them the one for evictions. Where there are no harts nobody works
  abbrev pub workers : ℕ
  workers = if leg.harts == 0 then 0 else leg.harts + (elim leg.evictions [ Some all ↦ 1 | None ↦ 0 ])

  -- how many of the events are the worker's
  abbrev pub made : (worker : ℕ) → List Event → ℕ
  made worker events = count_by (is_event_of leg.harts worker) events

  -- after these events of the leg the worker's hart has ended, or its recovery is done
  abbrev pub has_ended : (worker : ℕ) → List Event → Bool
  has_ended worker events = nat_lt worker leg.harts && leg.behaviour.is_stopped (played leg.behaviour leg.opening events) worker

  -- why the worker makes no more events after these, if it has a stop
  abbrev pub stop_of : (worker : ℕ) → List Event → Option Stop
  stop_of worker events =
      if has_ended worker events then Some Ended
      else (if made worker events == leg.turns then Some Turns else (if length events == leg.most then Some Moment else None))

  -- the eviction of this number
  abbrev pub eviction : ℕ → Option (ℕ × ℕ)
  eviction number = elim leg.evictions [ Some all ↦ Some (all number) | None ↦ None ]

  -- the event may come after these: a step of a hart that has no stop, or the next eviction, where there is a worker for it that has none
  abbrev pub IsTurn : List Event → Event → Type 0
  IsTurn before (Step hart) = (hart < leg.harts) × (stop_of hart before ≡ None)
  IsTurn before (Evict line mask) = (leg.harts < workers) × (eviction (made leg.harts before) ≡ Some (line, mask)) × (stop_of leg.harts before ≡ None)
  IsTurn before Crash = ⊥
  IsTurn before Start = ⊥

  -- each event may come after those before it
  abbrev pub AreTurns : List Event → Type 0
  AreTurns journal = (before after : List Event) (event : Event) → journal ≡ before ++ event ∷ after → IsTurn before event

  pub record IsLeg (journal : List Event) : Type 0 where
    pub each : AreTurns journal
    -- at the end each worker has a stop
    pub ends : (worker : ℕ) → worker < workers → stop_of worker journal ≢ None
