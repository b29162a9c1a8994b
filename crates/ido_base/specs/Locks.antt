-- Who holds locks: a list has, of each lock, the hart that holds it, or none.
use Rattle.std.specs.Prelude.{ℕ, zero, suc, ◌+◌, ◌/◌, ◌%◌, ◌^◌, List, [], ◌∷◌, slice_get, Option, Some, None, Bool, false, not, ◌==◌}
use Rattle.std.specs.Prelude.{if◌then◌else◌, is_none, min}
use Rattle.std.specs.List.{list_any}

-- the lock is held by the hart
abbrev pub is_held_by : (hart : ℕ) → Option ℕ → Bool
is_held_by hart None = false
is_held_by hart (Some holder) = hart == holder

-- the least lock that the hart holds, from the number on
abbrev pub held_from : (at : ℕ) → List (Option ℕ) → (hart : ℕ) → Option ℕ
held_from at [] hart = None
held_from at (holder ∷ holders) hart = if is_held_by hart holder then Some at else held_from (at + 1) holders hart

-- the least lock that the hart holds
abbrev pub least_held : List (Option ℕ) → (hart : ℕ) → Option ℕ
least_held holders hart = held_from 0 holders hart

-- the hart holds no lock
abbrev pub holds_none : List (Option ℕ) → (hart : ℕ) → Bool
holds_none holders hart = is_none (least_held holders hart)

-- ---- Lists of locks

-- the list has the lock
abbrev pub has_lock : (locks : List ℕ) → (lock : ℕ) → Bool
has_lock locks lock = list_any (λ other. other == lock) locks

-- the lock exists, and the hart doesn't hold it
abbrev pub is_missing : List (Option ℕ) → (hart lock : ℕ) → Bool
is_missing holders hart lock = elim (slice_get holders lock) [
  | Some holder ↦ not (is_held_by hart holder)
  | None ↦ false
]

-- the lesser of a lock and another one, if there is another
abbrev pub lesser : (lock : ℕ) → Option ℕ → ℕ
lesser lock None = lock
lesser lock (Some other) = min lock other

-- the least of the locks that exist, and that the hart doesn't hold, in whatever order they are
abbrev pub least_missing : List (Option ℕ) → (locks : List ℕ) → (hart : ℕ) → Option ℕ
least_missing holders [] hart = None
least_missing holders (lock ∷ locks) hart =
    if is_missing holders hart lock then Some (lesser lock (least_missing holders locks hart)) else least_missing holders locks hart

-- ---- Masks of locks: bit i stands for lock i

-- the locks of the lowest bits, so many of them, ascending, where the lowest bit stands for lock `at`
abbrev pub locks_from : (at bits mask : ℕ) → List ℕ
locks_from at zero mask = []
locks_from at (suc bits) mask = if mask % 2 == 1 then at ∷ locks_from (at + 1) bits (mask / 2) else locks_from (at + 1) bits (mask / 2)

-- the locks of a mask of 64 bits, ascending
unfoldable pub locks_in : (mask : ℕ) → List ℕ
locks_in mask = locks_from 0 64 mask

-- the mask that has these locks
abbrev pub mask_with : (locks : List ℕ) → ℕ
mask_with [] = 0
mask_with (lock ∷ locks) = 2 ^ lock + mask_with locks
