-- What runs in threads, before and after.
use Rattle.std.specs.Prelude.{◌≡◌, ℕ, zero, suc, ◌+◌, ◌<◌, ◌≤◌, List, [], ◌∷◌, ◌++◌, All, Option}
use Rattle.std.specs.Vec.{vec_capacity}
use Rattle.machine_events.specs.declared.event.Event.{Event}
use Rattle.machine_events.specs.declared.event.Event.TheVariants.{Evict}
use Rattle.hart_board.specs.declared.board.Board.{Board}
use Rattle.hart_board.specs.declared.core_turn.Ahead.{Ahead}
use Rattle.hart_board.specs.declared.seat.Seat.{Seat}
use Rattle.hart_board.specs.Journals.{entries_by, events_of}
use Rattle.hart_board.specs.Seats.{IsSeatOf, number, numbers_of, opening_core, seen}
use Rattle.hart_driver.specs.declared.running.Part.{Part}
use Rattle.hart_driver.specs.declared.running.Part.TheVariants.{Evictor, Harts}

-- the first so many of these evictions, in order
abbrev pub first_evictions : (ℕ → ℕ × ℕ) → ℕ → List Event
first_evictions all zero = []
first_evictions all (suc n) = first_evictions all n ++ Evict (all n).0 (all n).1 ∷ []

-- the seat's own events are the first evictions that were to come, and those after them are still to come
pub record EvictsFrom {C L V : Type 0} (coming : V → ℕ → ℕ × ℕ) (v : V) (s : Seat C L) (w : V) : Type 0 where
  pub count : ℕ
  pub events : events_of (entries_by (number s) (seen s)) ≡ first_evictions (coming v) count
  pub advanced : (n : ℕ) → coming w n ≡ coming v (n + count)

-- the seat is one of this board, and has a hart
unfoldable pub IsHartSeat : {C L : Type 0} → (history : C → List Event) (space : C → ℕ) (runs : C → ℕ → Option (Ahead L) → Type 0) (hart_count : C → ℕ) →
    Board C L → Seat C L → Type 0
IsHartSeat history space runs hart_count board s = IsSeatOf history space runs board s × (number s < hart_count (opening_core board))

module _ {C L V : Type 0} (history : C → List Event) (space : C → ℕ) (runs : C → ℕ → Option (Ahead L) → Type 0) where
  -- the seats are seats of harts, or the seat has none and has made nothing, and all evictions are valid
  abbrev pub CanRun : (hart_count : C → ℕ) (evictable : C → ℕ → ℕ → Type 0) (coming : V → ℕ → ℕ × ℕ) → Board C L → Part C L V → Type 0
  CanRun hart_count evictable coming board (Harts seats) =
      All (IsHartSeat history space runs hart_count board) seats.items
  CanRun hart_count evictable coming board (Evictor s v) =
      (IsSeatOf history space runs board s × (seen s ≡ [])) × (hart_count (opening_core board) ≤ number s)
      × ((n : ℕ) → evictable (opening_core board) (coming v n).0 (coming v n).1)

  -- these are the same seats later. What the one without a hart has made are evictions that were to come, in order
  abbrev pub HasRun : (coming : V → ℕ → ℕ × ℕ) → Board C L → (old new : Part C L V) → Type 0
  HasRun coming board (Harts xs) (Harts ys) =
      All (IsSeatOf history space runs board) ys.items × (numbers_of ys.items ≡ numbers_of xs.items) × (vec_capacity ys ≡ vec_capacity xs)
  HasRun coming board (Evictor s v) (Evictor t w) = IsSeatOf history space runs board t × (number t ≡ number s) × EvictsFrom coming v t w
  HasRun coming board (Harts xs) (Evictor t w) = ⊥
  HasRun coming board (Evictor s v) (Harts ys) = ⊥

  abbrev pub HaveRun : (coming : V → ℕ → ℕ × ℕ) → Board C L → (old new : List (Part C L V)) → Type 0
  HaveRun coming board [] [] = Unit {0}
  HaveRun coming board (x ∷ xs) (y ∷ ys) = HasRun coming board x y × HaveRun coming board xs ys
  HaveRun coming board [] (y ∷ ys) = ⊥
  HaveRun coming board (x ∷ xs) [] = ⊥

-- which part it is
abbrev pub IsHarts : {C L V : Type 0} → Part C L V → Type 0
IsHarts (Harts seats) = Unit {0}
IsHarts (Evictor s v) = ⊥

abbrev pub IsEvictor : {C L V : Type 0} → Part C L V → Type 0
IsEvictor (Harts seats) = ⊥
IsEvictor (Evictor s v) = Unit {0}

-- the last one is such a part
abbrev pub EndsIn : {C L V : Type 0} → (Part C L V → Type 0) → List (Part C L V) → Type 0
EndsIn P parts = (rest : List _) × (p : _) × (parts ≡ rest ++ p ∷ []) × P p
