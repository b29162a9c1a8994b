-- A list of locks is empty exactly where its mask is 0.
use Rattle.std.proofs.Common.{◌≡◌, ◌≢◌, ℕ, ◌^◌, ◌<◌, ◌==◌, List, [], ◌∷◌, length, refl, ap, arith, sym, ◌∙◌, true, false, inl, inr, pow_pos}
use Rattle.std.proofs.lemmas.Bool.{cases_Bool, eqb-true, eqb-false}
use Rattle.ido_base.specs.Locks.{locks_in, mask_with}
use Rattle.ido_base.proofs.Public.{mask_of_locks, no_locks}
use Rattle.boundary_code.specs.Boundaries.{is_empty}

pub none_there : (locks : List ℕ) → is_empty locks ≡ true → locks ≡ []
none_there [] e = refl
none_there (lock ∷ locks) e = cc

pub some_there : (locks : List ℕ) → is_empty locks ≡ false → locks ≢ []
some_there [] e none = cc
some_there (lock ∷ locks) e none = cc

pub not_empty : (locks : List ℕ) → locks ≢ [] → is_empty locks ≡ false
not_empty [] some = absurd (some refl)
not_empty (lock ∷ locks) some = refl

pub none_with : (locks : List ℕ) → mask_with locks ≡ 0 → locks ≡ []
none_with [] e = refl
none_with (lock ∷ locks) e = let some = pow_pos lock in absurd (let z : ⊥ = omega (arith, some, e) in z)

-- the list of a mask's locks
pub empty_where : (mask : ℕ) → mask < 2 ^ 64 → is_empty (locks_in mask) ≡ (mask == 0)
empty_where mask small = elim (cases_Bool (mask == 0)) [
  | inl none ↦ ap (λ (m : ℕ). is_empty (locks_in m)) (eqb-true mask 0 none) ∙ (ap is_empty no_locks ∙ sym none)
  | inr some ↦
      not_empty (locks_in mask) (λ e. eqb-false mask 0 some (sym (mask_of_locks mask small) ∙ ap mask_with e)) ∙ sym some
]

-- a list of no numbers, and of some
pub none_long : (locks : List ℕ) → length locks ≡ 0 → is_empty locks ≡ true
none_long [] e = refl
none_long (lock ∷ locks) e = absurd (let z : ⊥ = omega (arith, e) in z)

pub some_long : (locks : List ℕ) → length locks ≢ 0 → is_empty locks ≡ false
some_long [] some = absurd (some refl)
some_long (lock ∷ locks) some = refl
