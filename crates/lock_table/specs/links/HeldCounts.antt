-- How many locks harts hold.
use Rattle.std.specs.Prelude.{◌≡◌, ◌<◌, ℕ, List, Option, length, get_or, count_by}
use Rattle.ido_base.specs.Locks.{is_held_by}

-- how many locks the hart holds
abbrev pub held_count : List (Option ℕ) → (hart : ℕ) → ℕ
held_count holders hart = count_by (is_held_by hart) holders

-- the counts are those of the first harts
abbrev pub AreCounted : (holders : List (Option ℕ)) (counts : List ℕ) → Type 0
AreCounted holders counts = (hart : ℕ) → hart < length counts → get_or counts hart 0 ≡ held_count holders hart
