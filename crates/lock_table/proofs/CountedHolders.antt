-- Counts of held locks stay right as locks are taken and given.
use Rattle.std.proofs.Common.{◌≡◌, ℕ, zero, suc, ◌+◌, ◌-◌, ◌<◌, ◌≤◌, ◌^◌, List, [], ◌∷◌, length, get_or, set, replicate, Option, Some, None}
use Rattle.std.proofs.Common.{Bool, true, false, true≢false, cond, inl, inr, ◌==◌, refl, sym, ap, ◌∙◌, subst, arith}
use Rattle.std.specs.Prelude.{slice_get, is_none, is_some}
use Rattle.std.proofs.lemmas.Bool.{cases_eq, eq-eqb, ne_eqb}
use Rattle.std.proofs.lemmas.Option.{slice_get-get_or}
use Rattle.std.proofs.lemmas.List.{get_or_read, length-set, length-replicate, get_or-set_same, get_or-set_other, get_or-replicate}
use Rattle.std.proofs.lemmas.List.Sums.{count_by-le-length, sum_by-set, sum_by-cons}
use Rattle.ido_base.specs.Locks.{is_held_by, held_from, holds_none}
use Rattle.lock_table.specs.links.HeldCounts.{held_count, AreCounted}

-- 1 where the hart holds the lock
abbrev counted : (hart : ℕ) → Option ℕ → ℕ
counted hart holder = cond (is_held_by hart holder) 1 0

-- a lock of another holder: the count loses the old one and gets the new one
count_set : (holders : List (Option ℕ)) (lock hart : ℕ) (holder old : Option ℕ) → lock < length holders → get_or holders lock None ≡ old →
    held_count (set holders lock holder) hart + counted hart old ≡ held_count holders hart + counted hart holder
count_set holders lock hart holder old within was =
    subst (λ (o : Option ℕ). held_count (set holders lock holder) hart + counted hart o ≡ held_count holders hart + counted hart holder)
    was (sum_by-set (counted hart) holders lock holder None within)

held_by_none : (hart : ℕ) → counted hart None ≡ 0
held_by_none hart = refl

held_itself : (hart : ℕ) → counted hart (Some hart) ≡ 1
held_itself hart = ap (λ (b : Bool). cond {A = ℕ} b 1 0) (eq-eqb hart hart refl)

held_other : (hart other : ℕ) → (hart ≡ other → ⊥) → counted hart (Some other) ≡ 0
held_other hart other apart = ap (λ (b : Bool). cond {A = ℕ} b 1 0) (ne_eqb hart other apart)

module _ (holders : List (Option ℕ)) (counts : List ℕ) (lock hart : ℕ) (right : AreCounted holders counts) (within : lock < length holders) where
  module _ (free : get_or holders lock None ≡ None) where
    taken_other : (other : ℕ) → (other ≡ hart → ⊥) → held_count (set holders lock (Some hart)) other ≡ held_count holders other
    taken_other other apart =
        omega (arith, held_by_none other, count_set holders lock other (Some hart) None within free, held_other other hart apart)

    taken_itself : held_count (set holders lock (Some hart)) hart ≡ held_count holders hart + 1
    taken_itself = omega (arith, held_by_none hart, count_set holders lock hart (Some hart) None within free, held_itself hart)

    -- a lock that was free is counted for its holder
    pub taken : hart < length counts → AreCounted (set holders lock (Some hart)) (set counts hart (get_or counts hart 0 + 1))
    taken below other few = elim (cases_eq other hart) [
      | inl same ↦
          subst (λ n. get_or (set counts hart (get_or counts hart 0 + 1)) n 0 ≡ held_count (set holders lock (Some hart)) n) (sym same)
          (get_or-set_same counts hart (get_or counts hart 0 + 1) 0 below ∙ ap (λ n. n + 1) (right hart below) ∙ sym taken_itself)
      | inr apart ↦
          get_or-set_other counts hart other (get_or counts hart 0 + 1) 0 apart
          ∙ right other (subst (λ n. other < n) (length-set counts hart (get_or counts hart 0 + 1)) few)
          ∙ sym (taken_other other apart)
    ]

    -- nothing changes for the others
    pub taken_past : length counts ≤ hart → AreCounted (set holders lock (Some hart)) counts
    taken_past past other below = right other below ∙ sym (taken_other other (λ same. let z : ⊥ = omega (arith, same, past, below) in z))

    -- there is room for the count
    pub taken_few : hart < length counts → length holders < 2 ^ 32 → get_or counts hart 0 + 1 < 2 ^ 32
    taken_few below few =
        omega (
          arith,
          right hart below,
          taken_itself,
          few,
          length-set holders lock (Some hart),
          count_by-le-length (is_held_by hart) (set holders lock (Some hart)),
        )

  module _ (held : get_or holders lock None ≡ Some hart) where
    given_other : (other : ℕ) → (other ≡ hart → ⊥) → held_count (set holders lock None) other ≡ held_count holders other
    given_other other apart =
        omega (arith, held_by_none other, count_set holders lock other None (Some hart) within held, held_other other hart apart)

    given_itself : held_count (set holders lock None) hart + 1 ≡ held_count holders hart
    given_itself = omega (arith, held_by_none hart, count_set holders lock hart None (Some hart) within held, held_itself hart)

    -- a lock that was held isn't counted any more
    pub given : hart < length counts → AreCounted (set holders lock None) (set counts hart (get_or counts hart 0 - 1))
    given below other few = elim (cases_eq other hart) [
      | inl same ↦
          subst (λ n. get_or (set counts hart (get_or counts hart 0 - 1)) n 0 ≡ held_count (set holders lock None) n) (sym same)
          (get_or-set_same counts hart (get_or counts hart 0 - 1) 0 below ∙ omega (arith, right hart below, given_itself))
      | inr apart ↦
          get_or-set_other counts hart other (get_or counts hart 0 - 1) 0 apart
          ∙ right other (subst (λ n. other < n) (length-set counts hart (get_or counts hart 0 - 1)) few)
          ∙ sym (given_other other apart)
    ]

    pub given_past : length counts ≤ hart → AreCounted (set holders lock None) counts
    given_past past other below = right other below ∙ sym (given_other other (λ same. let z : ⊥ = omega (arith, same, past, below) in z))

    -- the count isn't zero
    pub given_some : hart < length counts → 1 ≤ get_or counts hart 0
    given_some below = omega (arith, right hart below, given_itself)

-- a lock that was read has no holder
pub was_free : (holders : List (Option ℕ)) (lock : ℕ) (holder : Option ℕ) → lock < length holders → holder ≡ get_or holders lock holder →
    is_some holder ≡ false → get_or holders lock None ≡ None
was_free holders lock None within is none = sym (get_or_read holders lock None within is None)
was_free holders lock (Some hart) within is none = absurd (true≢false none)

pub free_there : (holders : List (Option ℕ)) (lock : ℕ) (holder : Option ℕ) → lock < length holders → holder ≡ get_or holders lock holder →
    is_some holder ≡ false → slice_get holders lock ≡ Some None
free_there holders lock holder within is none =
    slice_get-get_or holders lock None within ∙ ap Some (was_free holders lock holder within is none)

none_more : (n : ℕ) → 0 + n ≡ n
none_more n = omega arith

-- nobody holds a free lock
pub none_counted : (locks harts : ℕ) → AreCounted (replicate locks None) (replicate harts 0)
none_counted locks harts hart below = zeros ∙ sym (nothing locks)
  where
    zeros : get_or (replicate harts (zero)) hart zero ≡ zero
    zeros = get_or-replicate harts hart 0 0 (subst (λ n. hart < n) (length-replicate harts 0) below)

    nothing : (locks : ℕ) → held_count (replicate locks None) hart ≡ 0
    nothing zero = refl
    nothing (suc locks) = sum_by-cons (counted hart) None (replicate locks None) ∙ none_more (held_count (replicate locks None) hart) ∙ nothing locks

-- a hart holds none exactly where its count is 0
pub none_where_zero : (holders : List (Option ℕ)) (hart : ℕ) → (held_count holders hart == 0) ≡ holds_none holders hart
none_where_zero holders hart = from 0 holders
  where
    from : (at : ℕ) (holders : List (Option ℕ)) → (held_count holders hart == 0) ≡ is_none (held_from at holders hart)
    from at [] = refl
    from at (holder ∷ holders) =
        ap (λ (n : ℕ). n == 0) (sum_by-cons (counted hart) holder holders) ∙ by (is_held_by hart holder) (held_count holders hart) (from (at + 1) holders)
      where
        by : (b : Bool) (n : ℕ) → (n == 0) ≡ is_none (held_from (at + 1) holders hart) →
            (cond {A = ℕ} b 1 0 + n == 0) ≡ is_none (cond b (Some at) (held_from (at + 1) holders hart))
        by true n e = ne_eqb (1 + n) 0 (λ same. let z : ⊥ = omega (arith, same) in z)
        by false n e = ap (λ (k : ℕ). k == 0) (none_more n) ∙ e
