-- What a core is asked to do, and what it does: its meaning between events, and the play of a list of events.
use Rattle.std.specs.Prelude.{◌≡◌, ◌⊎◌, ℕ, zero, suc, ◌+◌, ◌<◌, List, [], ◌∷◌, ◌++◌, replicate, Option, Some, None, Bool, true, false, not, if◌then◌else◌}
use Rattle.machine_events.specs.declared.event.Event.{Event}
use Rattle.machine_events.specs.declared.event.Event.TheVariants.{Step, Evict, Crash, Start}
use Rattle.machine_events.specs.declared.event.Reply.{Reply}
use Rattle.machine_events.specs.declared.event.Reply.TheVariants.{Moved, Drained, Waits, Barrier, Still, Stuck, Device}

-- the event may be asked at any time of a core of so many harts, at which these evictions (line, mask) are valid. A start may not
abbrev pub IsValid : (harts : ℕ) → (ℕ → ℕ → Type 0) → Event → Type 0
IsValid harts evictable (Step hart) = hart < harts
IsValid harts evictable (Evict line mask) = evictable line mask
IsValid harts evictable Crash = Unit {0}
IsValid harts evictable Start = ⊥

-- the event may be asked of a core now: one that may be at any time, or a start where another life may begin
abbrev pub IsValidNow : (harts : ℕ) → (ℕ → ℕ → Type 0) → (can_start : Bool) → Event → Type 0
IsValidNow harts evictable can_start event = IsValid harts evictable event ⊎ ((event ≡ Start) × (can_start ≡ true))

-- how cores of a kind behave, where M is what such a core represents between events
pub record Behaviour (M : Type 0) : Type 0 where
  -- what it represents after an event
  pub next : M → Event → M
  -- what the event is replied to
  pub reply : M → Event → Reply
  -- the hart has ended, or its recovery is done
  pub is_stopped : M → (hart : ℕ) → Bool
  -- each hart has stopped between sections, so that another life may begin
  pub can_start : M → Bool
  -- the event now stores the hart's point
  pub stores_point : M → (hart : ℕ) → Event → Bool
  -- the event now finishes a fence of the hart
  pub finishes_fence : M → (hart : ℕ) → Event → Bool

-- the play of events: what a core represents after them
abbrev pub played : {M : Type 0} → Behaviour M → M → List Event → M
played b m [] = m
played b m (event ∷ events) = played b (b.next m event) events

-- how many of the events pass a test, each of them by what the core represented before it
abbrev pub passed_count : {M : Type 0} → Behaviour M → (test : M → Event → Bool) → M → List Event → ℕ
passed_count b test m [] = 0
passed_count b test m (event ∷ events) = (if test m event then 1 else 0) + passed_count b test (b.next m event) events

-- how often the events store the hart's point
abbrev pub point_stores : {M : Type 0} → Behaviour M → M → List Event → (hart : ℕ) → ℕ
point_stores b m events hart = passed_count b (λ m. b.stores_point m hart) m events

-- how many fences of the hart the events finish
abbrev pub finished_fences : {M : Type 0} → Behaviour M → M → List Event → (hart : ℕ) → ℕ
finished_fences b m events hart = passed_count b (λ m. b.finishes_fence m hart) m events

-- ---- Harts that can step

-- what a step is replied to of a hart that waits, or that has ended
abbrev pub is_idle : Reply → Bool
is_idle Moved = false
is_idle Drained = false
is_idle (Waits lock holder) = true
is_idle (Barrier hart) = true
is_idle Still = true
is_idle (Stuck cause) = false
is_idle Device = false

-- the hart's next step would neither wait nor find it ended
abbrev pub is_enabled : {M : Type 0} → Behaviour M → M → (hart : ℕ) → Bool
is_enabled b m hart = not (is_idle (b.reply m (Step hart)))

-- the least of so many harts that is enabled
abbrev pub least_enabled : {M : Type 0} → Behaviour M → M → (harts : ℕ) → Option ℕ
least_enabled b m zero = None
least_enabled b m (suc hart) = elim (least_enabled b m hart) [
  | Some least ↦ Some least
  | None ↦ if is_enabled b m hart then Some hart else None
]

-- ---- Steps of one hart

-- after the events, each of so many steps of the hart moves it, and none of them finds it stopped
abbrev pub EachMoves : {M : Type 0} → Behaviour M → M → List Event → (hart count : ℕ) → Type 0
EachMoves b m events hart count = (n : ℕ) → n < count →
    (b.reply (played b m (events ++ replicate n (Step hart))) (Step hart) ≡ Moved)
    × (b.is_stopped (played b m (events ++ replicate n (Step hart))) hart ≡ false)
