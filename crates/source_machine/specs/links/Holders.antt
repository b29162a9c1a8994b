-- Which of the first threads hold mutexes.
use Rattle.std.specs.Prelude.{ℕ, zero, suc, List, Option, Some, None, Bool, true, false, nat_lt, ◌&&◌}
use Rattle.ido_base.specs.Locks.{holds_none}

-- the holder is one of so many threads
abbrev pub is_among : (threads : ℕ) → Option ℕ → Bool
is_among threads None = false
is_among threads (Some thread) = nat_lt thread threads

-- none of so many threads holds a mutex
abbrev pub hold_none : List (Option ℕ) → (threads : ℕ) → Bool
hold_none holders zero = true
hold_none holders (suc thread) = hold_none holders thread && holds_none holders thread
