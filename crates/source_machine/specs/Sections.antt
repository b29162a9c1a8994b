-- How many sections of each thread have ended.
use Rattle.std.specs.Prelude.{◌≡◌, ℕ, ◌-◌, ◌^◌, ◌<◌, List, length, min, slice_index}

-- of each thread so many; from 2 ^ 64 - 1 on they aren't told apart
abbrev pub AreCounted : List ℕ → (ended : ℕ → ℕ) → Type 0
AreCounted sections ended = (thread : ℕ) → thread < length sections → slice_index sections thread ≡ min (ended thread) (2 ^ 64 - 1)
