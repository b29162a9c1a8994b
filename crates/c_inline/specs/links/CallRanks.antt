-- Ranks of functions.
use Rattle.std.specs.Prelude.{ℕ, ◌≤◌, List, Option, Some, None, Contains, slice_get}
use Rattle.c_tree.specs.Inlining.{Call}
use Rattle.c_inline.specs.links.Calls.{calls_at}

-- the rank of a function, 0 where it has none
abbrev pub rank_in : Option (Option ℕ) → ℕ
rank_in (Some (Some rank)) = rank
rank_in (Some None) = 0
rank_in None = 0

abbrev pub rank_at : List (Option ℕ) → (function : ℕ) → ℕ
rank_at ranks function = rank_in (slice_get ranks function)

-- a call leads to a function of no higher rank
abbrev pub AreRanks : List (List Call) → (ranks : List (Option ℕ)) → Type 0
AreRanks cs ranks = (function : ℕ) (c : Call) → Contains (calls_at cs function) c → rank_at ranks c.function ≤ rank_at ranks function
