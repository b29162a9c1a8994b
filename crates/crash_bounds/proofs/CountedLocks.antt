-- How many locks of a list a hart still has to take.
use Rattle.std.proofs.Common.{◌≡◌, ◌≢◌, ◌⊎◌, inl, inr, refl, ℕ, zero, suc, ◌+◌, ◌≤◌, List, [], ◌∷◌, length, map, set, ap, sym, ◌∙◌, subst, arith}
use Rattle.std.proofs.Common.{Bool, true, false, Option, Some, None}
use Rattle.std.specs.Prelude.{slice_get, not, ◌==◌}
use Rattle.std.proofs.lemmas.Bool.{cases_eq, eqb-true}
use Rattle.ido_base.specs.Locks.{is_held_by, is_missing, has_lock}
use Rattle.ido_base.proofs.Public.{has_cases}
use Rattle.machine_model.proofs.Public.{get-set_same, get-set_other}

-- whether a lock is missing, by what is said of its holder
missing_by : (h : ℕ) → Option (Option ℕ) → Bool
missing_by h (Some holder) = not (is_held_by h holder)
missing_by h None = false

missing_is : (holders : List (Option ℕ)) (h lock : ℕ) → is_missing holders h lock ≡ missing_by h (slice_get holders lock)
unfolding missing_by
missing_is holders h lock = by (slice_get holders lock)
  where
    by : (slot : Option (Option ℕ)) → (elim slot [ Some holder ↦ not (is_held_by h holder) | None ↦ false ]) ≡ missing_by h slot
    by None = refl
    by (Some holder) = refl

abbrev pub one_if : Bool → ℕ
one_if true = 1
one_if false = 0

-- how many of the locks exist, and the hart doesn't hold
abbrev pub count_missing : List (Option ℕ) → (locks : List ℕ) → (h : ℕ) → ℕ
count_missing holders [] h = 0
count_missing holders (lock ∷ locks) h = one_if (is_missing holders h lock) + count_missing holders locks h

one_most : (b : Bool) → one_if b ≤ 1
one_most true = omega arith
one_most false = omega arith

pub missing_most : (holders : List (Option ℕ)) (locks : List ℕ) (h : ℕ) → count_missing holders locks h ≤ length locks
missing_most holders [] h = omega arith
missing_most holders (lock ∷ locks) h =
    let more = missing_most holders locks h in
    let one = one_most (is_missing holders h lock) in
    omega (arith, more, one)

-- ---- A free lock is taken

module _ (holders : List (Option ℕ)) (lock : ℕ) (free : slice_get holders lock ≡ Some None) where
  -- by another hart: it is as missing as before
  module _ (g h : ℕ) (other : g ≢ h) where
    taken_slot : slice_get (set holders lock (Some g)) lock ≡ Some (Some g)
    taken_slot = get-set_same holders lock (Some g) None free

    held_by_other : is_held_by h (Some g) ≡ false
    held_by_other = elim (cases_eq h g) [ inl is ↦ absurd (other (sym is)) | inr ne ↦ grind (arith, ne) ]

    missing_stays : (asked : ℕ) → is_missing (set holders lock (Some g)) h asked ≡ is_missing holders h asked
    unfolding missing_by
    missing_stays asked = elim (cases_eq asked lock) [
      | inl is ↦ subst (λ (l : ℕ). is_missing (set holders lock (Some g)) h l ≡ is_missing holders h l) (sym is)
          (missing_is (set holders lock (Some g)) h lock ∙ ap (missing_by h) taken_slot ∙ ap not held_by_other
          ∙ sym (missing_is holders h lock ∙ ap (missing_by h) free))
      | inr ne ↦ missing_is (set holders lock (Some g)) h asked ∙ ap (missing_by h) (get-set_other holders lock asked (Some g) ne)
          ∙ sym (missing_is holders h asked)
    ]

    pub count_stays : (locks : List ℕ) → count_missing (set holders lock (Some g)) locks h ≡ count_missing holders locks h
    count_stays [] = refl
    count_stays (asked ∷ locks) =
        ap (λ (b : Bool). one_if b + count_missing (set holders lock (Some g)) locks h) (missing_stays asked)
        ∙ ap (λ (n : ℕ). one_if (is_missing holders h asked) + n) (count_stays locks)

  -- by the hart itself: one less is missing, if it is among them
  module _ (h : ℕ) where
    own_slot : slice_get (set holders lock (Some h)) lock ≡ Some (Some h)
    own_slot = get-set_same holders lock (Some h) None free

    own_held : is_held_by h (Some h) ≡ true
    own_held = grind arith

    was_missing : is_missing holders h lock ≡ true
    unfolding missing_by
    was_missing = missing_is holders h lock ∙ ap (missing_by h) free

    not_missing : is_missing (set holders lock (Some h)) h lock ≡ false
    unfolding missing_by
    not_missing = missing_is (set holders lock (Some h)) h lock ∙ ap (missing_by h) own_slot ∙ ap not own_held

    no_more : (asked : ℕ) → one_if (is_missing (set holders lock (Some h)) h asked) ≤ one_if (is_missing holders h asked)
    no_more asked = elim (cases_eq asked lock) [
      | inl is ↦ subst (λ (l : ℕ). one_if (is_missing (set holders lock (Some h)) h l) ≤ one_if (is_missing holders h l)) (sym is)
          (let none = ap one_if not_missing in omega (arith, none))
      | inr ne ↦
          let same : is_missing (set holders lock (Some h)) h asked ≡ is_missing holders h asked =
          missing_is (set holders lock (Some h)) h asked ∙ ap (missing_by h) (get-set_other holders lock asked (Some h) ne)
          ∙ sym (missing_is holders h asked) in
          let equal = ap one_if same in
          omega (arith, equal)
    ]

    count_no_more : (locks : List ℕ) → count_missing (set holders lock (Some h)) locks h ≤ count_missing holders locks h
    count_no_more [] = omega arith
    count_no_more (asked ∷ locks) =
        let first = no_more asked in
        let more = count_no_more locks in
        omega (arith, first, more)

    pub count_less : (locks : List ℕ) → has_lock locks lock ≡ true →
        suc (count_missing (set holders lock (Some h)) locks h) ≤ count_missing holders locks h
    count_less [] has = absurd (let never : false ≡ true = has in cc)
    count_less (asked ∷ locks) has = elim (has_cases lock asked locks has) [
      | inl is ↦
          let before = ap one_if (ap (is_missing holders h) is ∙ was_missing) in
          let after = ap one_if (ap (is_missing (set holders lock (Some h)) h) is ∙ not_missing) in
          let more = count_no_more locks in
          omega (arith, before, after, more)
      | inr later ↦
          let first = no_more asked in
          let more = count_less locks later in
          omega (arith, first, more)
    ]
