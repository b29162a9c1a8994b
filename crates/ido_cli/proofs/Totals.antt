-- Sums of numbers, one after another.
use Rattle.std.proofs.Common.{◌≡◌, ℕ, ◌+◌, ◌<◌, ◌≤◌, ◌^◌, List, length, drop, arith, ap, ℤ}
use Rattle.std.specs.Int.{w128}
use Rattle.std.specs.Prelude.{◌+ℤ◌, FitsSigned, negsuc, pos, slice_index_or, unsigned_abs}
use Rattle.std.proofs.lemmas.Int.{fits_signed_from_abs, ints}
use Rattle.std.proofs.lemmas.List.{at_drop_more, drop_all}
use Rattle.ido_cli.specs.Loads.{total}
use Rattle.ido_cli.specs.links.LegRuns.{IsSmall}

small_abs : (z : ℤ) → IsSmall z → unsigned_abs z < 2 ^ 127
small_abs (pos n) small = omega (arith, ints, small.1)
small_abs (negsuc n) small = omega (arith, ints, small.0)

pub small_fits : (z : ℤ) → IsSmall z → FitsSigned w128 z
small_fits z small = fits_signed_from_abs w128 z (small_abs z small)

-- with one number more, what is left has one less
pub sums_more : (xs : List ℤ) (i : ℕ) (sum : ℤ) → i < length xs → sum +ℤ total (drop i xs) ≡ total xs →
    sum +ℤ slice_index_or xs i (pos 0) +ℤ total (drop (i + 1) xs) ≡ total xs
sums_more xs i sum below so_far =
    let next : total (drop i xs) ≡ slice_index_or xs i (pos 0) +ℤ total (drop (i + 1) xs) = at_drop_more total xs i (pos 0) below in
    omega (arith, ints, next, so_far)

-- nothing is left
pub sums_whole : (xs : List ℤ) (i : ℕ) (sum : ℤ) → length xs ≤ i → sum +ℤ total (drop i xs) ≡ total xs → sum ≡ total xs
sums_whole xs i sum past so_far =
    let none : total (drop i xs) ≡ pos 0 = ap total (drop_all i xs past) in
    omega (arith, ints, none, so_far)
