-- Lists of addresses joined.
use Rattle.std.proofs.Common.{inl, inr, ◌≡◌, ℕ, zero, suc, ◌+◌, ◌<◌, ◌≤◌, List, [], ◌∷◌, ◌++◌, length, refl, ap, sym, ◌∙◌, arith, subst, Some}
use Rattle.std.specs.Prelude.{slice_get, slice_index, Contains}
use Rattle.std.specs.List.{concat}
use Rattle.std.specs.List.Sorted.{IsStrictlyIncreasing}
use Rattle.std.proofs.lemmas.List.Elements.{Contains-append_left, Contains-append_right, Contains-append_cases}
use Rattle.std.proofs.lemmas.Option.{none-some, same_Some}

-- ---- Lists of one each

-- as many as there are lists, and the one of each
pub record AreOnes (ls : List (List ℕ)) : Type 0 where
  pub count : length (concat ls) ≡ length ls
  pub each : (i m : ℕ) → slice_get ls i ≡ Some (m ∷ []) → slice_get (concat ls) i ≡ Some m

pub joined_ones : (ls : List (List ℕ)) → ((i : ℕ) → i < length ls → (m : ℕ) × (slice_get ls i ≡ Some (m ∷ []))) → AreOnes ls
joined_ones [] h = record { count = refl; each = λ i m there. absurd (none-some (m ∷ []) there) }
joined_ones (l ∷ ls) h =
    let one = h 0 (omega arith) in
    let first : l ≡ one.0 ∷ [] = same_Some l (one.0 ∷ []) one.1 in
    let later : AreOnes ls = joined_ones ls (λ i below. h (suc i) (omega (arith, below))) in
    let counted : length (concat ls) ≡ length ls = later.count in
    record { count = ap (λ (x : List ℕ). length (x ++ concat ls)) first ∙ ap suc counted; each = λ i m there. at one.0 first later i m there }
  where
    at : (x : ℕ) → l ≡ x ∷ [] → AreOnes ls → (i m : ℕ) → slice_get (l ∷ ls) i ≡ Some (m ∷ []) → slice_get (l ++ concat ls) i ≡ Some m
    at x first later zero m there = ap (λ (y : List ℕ). slice_get (y ++ concat ls) zero) (same_Some l (m ∷ []) there)
    at x first later (suc i) m there = ap (λ (y : List ℕ). slice_get (y ++ concat ls) (suc i)) first ∙ later.each i m there

-- ---- What joined lists contain

-- the list that has it
pub record IsIn (ls : List (List ℕ)) (a : ℕ) : Type 0 where
  pub number : ℕ
  pub list : List ℕ
  pub there : slice_get ls number ≡ Some list
  pub has : Contains list a

pub in_one : (ls : List (List ℕ)) (a : ℕ) → Contains (concat ls) a → IsIn ls a
in_one [] a c = absurd (let l : c.0 < 0 = c.1 in omega (arith, l))
in_one (l ∷ ls) a c = elim (Contains-append_cases l (concat ls) a c) [
  | inl here ↦ record { number = 0; list = l; there = refl; has = here }
  | inr later ↦ let r : IsIn ls a = in_one ls a later in record { number = suc r.number; list = r.list; there = r.there; has = r.has }
]

pub in_joined : (ls : List (List ℕ)) (i : ℕ) (l : List ℕ) (a : ℕ) → slice_get ls i ≡ Some l → Contains l a → Contains (concat ls) a
in_joined [] i l a there has = absurd (none-some l there)
in_joined (k ∷ ls) zero l a there has = Contains-append_left k (concat ls) a (subst (λ (x : List ℕ). Contains x a) (sym (same_Some k l there)) has)
in_joined (k ∷ ls) (suc i) l a there has = Contains-append_right k (concat ls) a (in_joined ls i l a there has)

-- ---- Order

-- the numbers ascend from above the one number up to the other
abbrev pub Ascends : (low high : ℕ) → List ℕ → Type 0
Ascends low high [] = low ≤ high
Ascends low high (x ∷ xs) = (low < x) × Ascends x high xs

ascends_from : (low mid high : ℕ) (xs : List ℕ) → low ≤ mid → Ascends mid high xs → Ascends low high xs
ascends_from low mid high [] up h = omega (arith, up, h)
ascends_from low mid high (x ∷ xs) up h = (let l : mid < x = h.0 in omega (arith, up, l), h.1)

ascends_on : (low mid high : ℕ) (xs ys : List ℕ) → Ascends low mid xs → Ascends mid high ys → Ascends low high (xs ++ ys)
ascends_on low mid high [] ys h g = ascends_from low mid high ys h g
ascends_on low mid high (x ∷ xs) ys h g = (h.0, ascends_on x mid high xs ys h.1 g)

-- lists between one place and the next
pub joined_ascend : (ls : List (List ℕ)) (place : ℕ → ℕ) → ((i : ℕ) (l : List ℕ) → slice_get ls i ≡ Some l → Ascends (place i) (place (suc i)) l) →
    Ascends (place 0) (place (length ls)) (concat ls)
joined_ascend [] place h = omega arith
joined_ascend (l ∷ ls) place h =
    ascends_on (place 0) (place 1) (place (suc (length ls))) l (concat ls) (h 0 l refl)
    (joined_ascend ls (λ i. place (suc i)) (λ i k there. h (suc i) k there))

pub ascending : (low high : ℕ) (xs : List ℕ) → Ascends low high xs → IsStrictlyIncreasing xs
ascending low high [] h = λ k below. absurd (omega (arith, below))
ascending low high (x ∷ []) h = λ k below. absurd (omega (arith, below))
ascending low high (x ∷ y ∷ ys) h = λ k below. at k below (ascending x high (y ∷ ys) h.1)
  where
    at : (k : ℕ) → k + 1 < length (x ∷ y ∷ ys) → IsStrictlyIncreasing (y ∷ ys) → slice_index (x ∷ y ∷ ys) k < slice_index (x ∷ y ∷ ys) (k + 1)
    at zero below rest = h.1.0
    at (suc k) below rest =
        let same : suc k + 1 ≡ suc (k + 1) = omega arith in
        let later : slice_index (y ∷ ys) k < slice_index (y ∷ ys) (k + 1) = rest k (omega (arith, below)) in
        subst (λ (n : ℕ). slice_index (y ∷ ys) k < slice_index (x ∷ y ∷ ys) n) (sym same) later
