-- Sums over lists that change at one place.
use Rattle.std.proofs.Common.{◌≡◌, ℕ, zero, suc, ◌+◌, ◌≤◌, ◌≢◌, List, [], ◌∷◌, ◌++◌, set, sym, refl, ap, arith}
use Rattle.hart_board.specs.BoardRule.{total}
use mathlib.Core.Option.{some, some-injective, some-ne-none}
use lib.ListN.{get_elem?}

module _ {A : Type 0} (g : A → ℕ) where
  pub sum_more : (l : List A) (a : A) → total g (l ++ a ∷ []) ≡ total g l + g a
  sum_more [] a = omega arith
  sum_more (x ∷ xs) a = omega (arith, sum_more xs a)

  pub sum_set : (l : List A) (j : ℕ) (v w : A) → get_elem? l j ≡ some v → total g (set l j w) + g v ≡ total g l + g w
  sum_set [] j v w e = absurd (some-ne-none v (sym e))
  sum_set (x ∷ xs) zero v w e = omega (arith, ap g (some-injective x v e))
  sum_set (x ∷ xs) (suc j) v w e = omega (arith, sum_set xs j v w e)

  pub sum_below : (h : A → ℕ) (l : List A) → ((j : ℕ) (v : A) → get_elem? l j ≡ some v → g v ≤ h v) → total g l ≤ total h l
  sum_below h [] each = omega arith
  sum_below h (x ∷ xs) each = let a = each 0 x refl in let b = sum_below h xs (λ j v e. each (suc j) v e) in omega (arith, a, b)

-- a place of a list that was set is there
pub set_at : {A : Type 0} (l : List A) (j : ℕ) (v w : A) → get_elem? l j ≡ some v → get_elem? (set l j w) j ≡ some w
set_at [] j v w e = absurd (some-ne-none v (sym e))
set_at (x ∷ xs) zero v w e = refl
set_at (x ∷ xs) (suc j) v w e = set_at xs j v w e

module _ {A : Type 0} (g : A → ℕ) where
  pub term_below : (l : List A) (j : ℕ) (v : A) → get_elem? l j ≡ some v → g v ≤ total g l
  term_below [] j v e = absurd (some-ne-none v (sym e))
  term_below (x ∷ xs) zero v e = omega (arith, ap g (some-injective x v e))
  term_below (x ∷ xs) (suc j) v e = omega (arith, term_below xs j v e)

  pub terms_below : (l : List A) (j k : ℕ) (v u : A) → k ≢ j → get_elem? l j ≡ some v → get_elem? l k ≡ some u → g v + g u ≤ total g l
  terms_below [] j k v u n e d = absurd (some-ne-none v (sym e))
  terms_below (x ∷ xs) zero zero v u n e d = absurd (n refl)
  terms_below (x ∷ xs) zero (suc k) v u n e d = omega (arith, ap g (some-injective x v e), term_below xs k u d)
  terms_below (x ∷ xs) (suc j) zero v u n e d = omega (arith, ap g (some-injective x u d), term_below xs j v e)
  terms_below (x ∷ xs) (suc j) (suc k) v u n e d = omega (arith, terms_below xs j k v u (λ h. n (ap suc h)) e d)
