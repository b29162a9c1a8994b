-- Homes of locals by their colours.
use Rattle.std.proofs.Common.{ℕ, zero, suc, ◌<◌, List, [], ◌∷◌, rules, lit<}
use Rattle.std.specs.Prelude.{slice_index}
use Rattle.std.specs.List.{AllByRecursion}
use Rattle.memory_layout.specs.declared.roles.TheConstants.{LOCALS}

all_small : AllByRecursion (λ (n : ℕ). n < 32) LOCALS
all_small = search rules

small_in : (ns : List ℕ) (k : ℕ) → AllByRecursion (λ (n : ℕ). n < 32) ns → slice_index ns k < 32
small_in [] k h = lit< tt
small_in (n ∷ ns) zero h = h.0
small_in (n ∷ ns) (suc k) h = small_in ns k h.1

-- a bank has a slot for the register of each
pub local_small : (colour : ℕ) → slice_index LOCALS colour < 32
local_small colour = small_in LOCALS colour all_small
