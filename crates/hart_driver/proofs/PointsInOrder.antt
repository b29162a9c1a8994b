-- Outcomes of points, put together.
use Rattle.std.proofs.Common.{◌≡◌, refl, ℕ, ◌+◌, List, [], ◌∷◌, ◌++◌, length, sym, subst, arith, length-append}
use Rattle.hart_driver.specs.Outcomes.{AreFrom, AreOutcomes}

module _ {A : Type 0} (is_outcome : ℕ → A → Type 0) where
  from_both : (first : ℕ) (xs ys : List A) → AreFrom is_outcome first xs → AreFrom is_outcome (first + length xs) ys → AreFrom is_outcome first (xs ++ ys)
  from_both first [] ys h k = subst (λ (n : ℕ). AreFrom is_outcome n ys) (omega arith) k
  from_both first (x ∷ xs) ys h k = (h.0, from_both (first + 1) xs ys h.1 (subst (λ (n : ℕ). AreFrom is_outcome n ys) (omega arith) k))

  pub none_yet : (first : ℕ) → AreOutcomes is_outcome first 0 []
  none_yet first = record { len = refl; each = tt }

  pub both : (first middle low high count : ℕ) (xs ys all : List A) → all ≡ xs ++ ys → middle ≡ first + low → count ≡ low + high →
      AreOutcomes is_outcome first low xs → AreOutcomes is_outcome middle high ys → AreOutcomes is_outcome first count all
  both first middle low high count xs ys all all_are at sum a b =
      subst (λ (os : List A). AreOutcomes is_outcome first count os) (sym all_are) (record {
        len = omega (arith, length-append xs ys, a.len, b.len, sum);
        each = from_both first xs ys a.each (subst (λ (n : ℕ). AreFrom is_outcome n ys) (omega (arith, at, a.len)) b.each);
      })

  pub one_more : (first count : ℕ) (xs all : List A) (o : A) → all ≡ xs ++ o ∷ [] → AreOutcomes is_outcome first count xs → is_outcome (first + count) o →
      AreOutcomes is_outcome first (count + 1) all
  one_more first count xs all o all_are a is =
      both first (first + count) count 1 (count + 1) xs (o ∷ []) all all_are refl refl a (record { len = refl; each = (is, tt) })
