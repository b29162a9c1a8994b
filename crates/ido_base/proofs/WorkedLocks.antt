-- Worked rows: locks of lists and of masks.
use Rattle.std.proofs.Common.{◌≡◌, ℕ, ◌^◌, List, [], ◌∷◌, refl, Bool, true, false, Option, Some, None}
use Rattle.ido_base.specs.Locks.{has_lock, least_missing, locks_in, mask_with}

-- bits 0 and 2, the last bit, and one past that
two_bits : locks_in 5 ≡ 0 ∷ 2 ∷ []
unfolding locks_in
two_bits = refl

last_bit : locks_in (2 ^ 63) ≡ 63 ∷ []
unfolding locks_in
last_bit = refl

past_last : locks_in (2 ^ 64) ≡ []
unfolding locks_in
past_last = refl

mask_back : mask_with (0 ∷ 2 ∷ []) ≡ 5
mask_back = refl

has_two : has_lock (0 ∷ 2 ∷ []) 2 ≡ true
has_two = refl

lacks_one : has_lock (0 ∷ 2 ∷ []) 1 ≡ false
lacks_one = refl

-- lock 0 is hart 1's, lock 1 is free, lock 2 is hart 0's, and there are no others
abbrev holders : List (Option ℕ)
holders = Some 1 ∷ None ∷ Some 0 ∷ []

-- the least that isn't the hart's own, whatever the order of the list
least_one : least_missing holders (0 ∷ 1 ∷ 2 ∷ []) 1 ≡ Some 1
least_one = refl

in_any_order : least_missing holders (2 ∷ 0 ∷ 1 ∷ []) 1 ≡ Some 1
in_any_order = refl

has_its_own : least_missing holders (0 ∷ []) 1 ≡ None
has_its_own = refl

none_exists : least_missing holders (7 ∷ []) 1 ≡ None
none_exists = refl
