-- The search for a lock that is missing goes on to the next lock.
use Rattle.std.proofs.Common.{◌≡◌, ℕ, zero, suc, ◌+◌, ◌/◌, ◌%◌, ◌^◌, ◌<◌, ◌≤◌, List, [], ◌∷◌, drop, length, Option, Some, None, true, false, ◌==◌, ◌&&◌}
use Rattle.std.proofs.Common.{not, slice_index_or, refl, sym, add-one, arith}
use Rattle.std.proofs.Math.Seq.{drop-cons}
use Rattle.ido_base.specs.Locks.{is_held_by, least_missing, locks_in}
use Rattle.ido_base.proofs.Public.{least_of_mask, missing_from}

-- a lock that isn't missing is passed over, and the mask's bits go one down
passed_over : (holders : List (Option ℕ)) (rest hart lock : ℕ) → lock < length holders →
    ((rest % 2 == 1) && not (is_held_by hart (slice_index_or holders lock None))) ≡ false →
    missing_from lock (drop lock holders) rest hart ≡ missing_from (lock + 1) (drop (lock + 1) holders) (rest / 2) hart
passed_over holders rest hart lock within here = rw (drop-cons holders lock None within) (rw here (rw add-one refl))

-- the same, by the list that is gone over
pub goes_on : (holders shown : List (Option ℕ)) (rest hart lock : ℕ) → shown ≡ holders → lock < length shown →
    ((rest % 2 == 1) && not (is_held_by hart (slice_index_or shown lock None))) ≡ false →
    missing_from lock (drop lock holders) rest hart ≡ missing_from (lock + 1) (drop (lock + 1) holders) (rest / 2) hart
goes_on holders shown rest hart lock same within here = passed_over holders rest hart lock (rw same at within) (rw same at here)

-- it ends at one that is
pub found_there : (holders shown : List (Option ℕ)) (rest hart lock : ℕ) → shown ≡ holders → lock < length shown →
    ((rest % 2 == 1) && not (is_held_by hart (slice_index_or shown lock None))) ≡ true →
    missing_from lock (drop lock holders) rest hart ≡ Some lock
found_there holders shown rest hart lock same within here = stops holders rest hart lock (rw same at within) (rw same at here)
  where
    stops : (holders : List (Option ℕ)) (rest hart lock : ℕ) → lock < length holders →
        ((rest % 2 == 1) && not (is_held_by hart (slice_index_or holders lock None))) ≡ true → missing_from lock (drop lock holders) rest hart ≡ Some lock
    stops holders rest hart lock within here = rw (drop-cons holders lock None within) (rw here refl)

-- or past the last one
pub none_there : (holders shown : List (Option ℕ)) (rest hart lock : ℕ) → shown ≡ holders → length shown ≤ lock →
    missing_from lock (drop lock holders) rest hart ≡ None
none_there holders shown rest hart lock same past = ends lock lock holders rest hart (rw same at past)
  where
    ends : (at lock : ℕ) (holders : List (Option ℕ)) (rest hart : ℕ) → length holders ≤ lock → missing_from at (drop lock holders) rest hart ≡ None
    ends at lock [] rest hart past = nothing at lock rest hart
      where
        nothing : (at lock rest hart : ℕ) → missing_from at (drop lock []) rest hart ≡ None
        nothing at zero rest hart = refl
        nothing at (suc lock) rest hart = refl
    ends at zero (holder ∷ holders) rest hart past = absurd (let z : ⊥ = omega (arith, past) in z)
    ends at (suc lock) (holder ∷ holders) rest hart past = ends at lock holders rest hart (omega (arith, past))

-- what is found along the holders is the least of the mask's locks that is missing
pub least_along : (holders : List (Option ℕ)) (mask hart : ℕ) → mask < 2 ^ 64 → missing_from 0 holders mask hart ≡ least_missing holders (locks_in mask) hart
least_along holders mask hart below = sym (least_of_mask holders hart mask below)
