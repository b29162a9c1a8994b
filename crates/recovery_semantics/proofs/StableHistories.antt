-- What is stable in a history stays so.
use Rattle.std.proofs.Common.{◌≡◌, ◌⊎◌, inl, inr, refl, ℕ, zero, suc, ◌-◌, ◌<◌, ◌≤◌, List, [], ◌∷◌, ◌++◌, length, map, sym, ◌∙◌, ap, subst, arith, ℤ, ⊎_elim}
use Rattle.std.specs.Prelude.{slice_index_or, pos}
use Rattle.std.proofs.lemmas.List.{length-append, length-map}
use Rattle.c_tree.specs.Source as m
use Rattle.recovery_semantics.specs.ElementHistories.{IsSince, History, history_of, live_number, durable_number, IsStable, with_number}
use Rattle.recovery_semantics.specs.ElementHistories.{after_crash, IsPersisted, Memory, history_at, number_at, memory_of, crashed}

-- ---- Lists

pub index_map : {X Y : Type 0} (g : X → Y) (xs : List X) (k : ℕ) (d : X) → slice_index_or (map g xs) k (g d) ≡ g (slice_index_or xs k d)
index_map g [] k d = refl
index_map g (x ∷ xs) zero d = refl
index_map g (x ∷ xs) (suc k) d = index_map g xs k d

index_end : {X : Type 0} (xs : List X) (n d : X) → slice_index_or (xs ++ n ∷ []) (length xs) d ≡ n
index_end [] n d = refl
index_end (x ∷ xs) n d = index_end xs n d

index_prefix : {X : Type 0} (xs ys : List X) (k : ℕ) (d : X) → k < length xs → slice_index_or (xs ++ ys) k d ≡ slice_index_or xs k d
index_prefix [] ys k d h = absurd (omega arith)
index_prefix (x ∷ xs) ys zero d h = refl
index_prefix (x ∷ xs) ys (suc k) d h = index_prefix xs ys k d (omega arith)

-- ---- A history

pub live_stable : (h : History) (n : ℤ) → IsStable h n → live_number h ≡ n
live_stable h n s = let there = s.there in s.each (length h.values - 1) (omega (arith, there)) (omega (arith, there))

pub live_with : (h : History) (n : ℤ) → live_number (with_number h n) ≡ n
live_with h n =
    let e : length (h.values ++ n ∷ []) - 1 ≡ length h.values = omega (arith, length-append h.values (n ∷ [])) in
    ap (λ (k : ℕ). slice_index_or (h.values ++ n ∷ []) k (pos 0)) e ∙ index_end h.values n (pos 0)

stable_with : (h : History) (n : ℤ) → IsStable h n → IsStable (with_number h n) n
stable_with h n s = record {
  there = let there = s.there in omega (arith, there, length-append h.values (n ∷ []));
  each = λ p low high. ⊎_elim
      (λ within. index_prefix h.values (n ∷ []) p (pos 0) within ∙ s.each p low within)
      (λ e. ap (λ (k : ℕ). slice_index_or (h.values ++ n ∷ []) k (pos 0)) e ∙ index_end h.values n (pos 0))
      (last p (let r : p < suc (length h.values) = omega (arith, high, length-append h.values (n ∷ [])) in r));
}
  where
    last : (p : ℕ) → p < suc (length h.values) → (p < length h.values) ⊎ (p ≡ length h.values)
    last p high = below p (length h.values) high
      where
        below : (p l : ℕ) → p < suc l → (p < l) ⊎ (p ≡ l)
        below zero zero g = inr refl
        below zero (suc l) g = inl (omega arith)
        below (suc p) zero g = absurd (omega arith)
        below (suc p) (suc l) g = ⊎_elim (λ a. inl (omega (arith, a))) (λ e. inr (ap suc e)) (below p l (omega (arith, g)))

-- a history to which its own number is appended stays stable
pub stable_again : (h : History) (n : ℤ) → IsStable h n → IsStable (with_number h (live_number h)) n
stable_again h n s = subst (λ (z : ℤ). IsStable (with_number h z) n) (sym (live_stable h n s)) (stable_with h n s)

pub stable_persisted : (old new : History) (n : ℤ) → IsPersisted old new → IsStable old n → IsStable new n
stable_persisted old new n h3 h4 = grind (arith)

pub live_persisted : (old new : History) → IsPersisted old new → live_number new ≡ live_number old
live_persisted old new r = ap (λ (l : List ℤ). slice_index_or l (length l - 1) (pos 0)) r.values

pub durable_stable : (h : History) (n : ℤ) → IsStable h n → durable_number h ≡ n
durable_stable h n s = s.each h.durable (omega arith) s.there

pub stable_of : (n : ℤ) → IsStable (history_of n) n
stable_of n = grind (arith)

pub stable_crashed : (h : History) (n : ℤ) → IsStable h n → IsStable (after_crash h) n
stable_crashed h n s = subst (λ (z : ℤ). IsStable (history_of z) n) (sym (durable_stable h n s)) (stable_of n)

-- ---- Since a store

-- no position is higher than the last one but that of the new value
before_or_last : (p l : ℕ) → p < suc l → (p < l) ⊎ (p ≡ l)
before_or_last zero zero g = inr refl
before_or_last zero (suc l) g = inl (omega arith)
before_or_last (suc p) zero g = absurd (omega (arith, g))
before_or_last (suc p) (suc l) g = ⊎_elim (λ a. inl (omega (arith, a))) (λ e. inr (ap suc e)) (before_or_last p l (omega (arith, g)))

in_more : (h : History) (n : ℤ) (p : ℕ) → p < length (with_number h n).values → p < suc (length h.values)
in_more h n p high = omega (arith, high, length-append h.values (n ∷ []))

pub there_with : (h : History) (n : ℤ) → h.durable < length h.values → (with_number h n).durable < length (with_number h n).values
there_with h n there = omega (arith, there, length-append h.values (n ∷ []))

pub since_own : (h : History) (n : ℤ) → IsSince (with_number h n) (length h.values)
since_own h n = grind (arith, length-append, in_more, index_end, live_with)

-- a history to which its own number is appended has had that number as long as before
pub since_again : (h : History) (q : ℕ) → IsSince h q → IsSince (with_number h (live_number h)) q
since_again h q h2 = grind (arith, length-append, before_or_last, in_more, index_end, index_prefix, live_with)

pub since_persisted : (old new : History) (q : ℕ) → IsPersisted old new → IsSince old q → IsSince new q
since_persisted old new q h3 h4 = grind (arith, live_persisted)

pub stable_since : (h : History) (q : ℕ) → IsSince h q → q ≤ h.durable → h.durable < length h.values → IsStable h (live_number h)
stable_since h q s l there = record { there = there; each = λ p low high. s.each p (omega (arith, l, low)) high }

-- ---- Memory

pub crashed_at : (memory : Memory) (v e : ℕ) → history_at (crashed memory) v e ≡ after_crash (history_at memory v e)
crashed_at memory v e =
    ap (λ (hs : List History). slice_index_or hs e (history_of (pos 0))) (index_map (map after_crash) memory v [])
    ∙ index_map after_crash (slice_index_or memory v []) e (history_of (pos 0))

pub first_at : (s : m.State) (v e : ℕ) → history_at (memory_of s) v e ≡ history_of (number_at s v e)
first_at s v e =
    ap (λ (hs : List History). slice_index_or hs e (history_of (pos 0))) (index_map (map history_of) s.variables v [])
    ∙ index_map history_of (slice_index_or s.variables v []) e (pos 0)

pub sizes_mapped : {X Y : Type 0} (g : X → Y) (xss : List (List X)) → map length (map (map g) xss) ≡ map length xss
sizes_mapped g [] = refl
sizes_mapped g (xs ∷ xss) = λ i. length-map xs g i ∷ sizes_mapped g xss i
