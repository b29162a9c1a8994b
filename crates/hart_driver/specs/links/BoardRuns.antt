-- What the threads of a board leave.
use Rattle.std.specs.Prelude.{◌≡◌, ℕ, ◌+◌, ◌<◌, List, length, All, Option, Some, None, slice_index}
use Rattle.machine_events.specs.declared.event.Event.{Event}
use Rattle.machine_events.specs.Cores.{Behaviour}
use Rattle.hart_board.specs.declared.journal.Entry.{Entry}
use Rattle.hart_board.specs.CoreTurns.{IsPlayed}
use Rattle.hart_board.specs.Journals.{IsLegal, entries_by, events_of, made_by, play_from}
use Rattle.hart_driver.specs.links.Parts.{first_evictions}
use Rattle.hart_driver.specs.links.UnderWay.{CanDrive}

-- the events of the seat after those of so many harts are the first evictions that were to come. Where there are none there is no such seat
abbrev pub HasEvicted : {V : Type 0} → (coming : V → ℕ → ℕ × ℕ) (harts seats : ℕ) (journal : List Entry) → (old new : Option V) → Type 0
HasEvicted coming harts seats journal None None = seats ≡ harts
HasEvicted coming harts seats journal (Some v) (Some w) =
    (seats ≡ harts + 1) × ((count : ℕ)
    × (events_of (entries_by harts journal) ≡ first_evictions (coming v) count) × ((n : ℕ) → coming w n ≡ coming v (n + count)))
HasEvicted coming harts seats journal None (Some w) = ⊥
HasEvicted coming harts seats journal (Some v) None = ⊥

module _ {C M V : Type 0} (b : Behaviour M) (opening : C → M) (history : C → List Event) (hart_count : C → ℕ) (coming : V → ℕ → ℕ × ℕ) where
  -- the core has become the play of a legal journal, of which each seat's events are counted
  pub record HasRunBoard (space : C → ℕ) (evictable : C → ℕ → ℕ → Type 0) (core : C) (turns moment : ℕ) (evict : Option V) (left : C) (counts : List ℕ)
      (evict_left : Option V) : Type 0 where
    pub some : 0 < hart_count core
    pub drives : CanDrive history space evictable coming core moment evict
    pub journal : List Entry
    pub seats : ℕ
    pub legal : IsLegal (play_from b (opening core) (history core) (hart_count core) seats) turns moment journal
    pub theirs : All (λ e. e.seat < seats) journal
    pub plays : IsPlayed opening history hart_count space evictable core (events_of journal) left
    pub size : length counts ≡ seats
    pub counted : (w : ℕ) → w < seats → slice_index counts w ≡ made_by w journal
    pub evictor : HasEvicted coming (hart_count core) seats journal evict evict_left
