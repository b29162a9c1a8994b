-- Which locks a list has.
use Rattle.std.proofs.Common.{◌≡◌, ◌⊎◌, inl, inr, ℕ, List, ◌∷◌, refl, true, ◌==◌}
use Rattle.std.proofs.lemmas.Bool.{or_cases, or_left, or_right, eqb-true, eq-eqb}
use Rattle.ido_base.specs.Locks.{has_lock}

pub has_first : (lock : ℕ) (locks : List ℕ) → has_lock (lock ∷ locks) lock ≡ true
has_first lock locks = or_left (lock == lock) (has_lock locks lock) (eq-eqb lock lock refl)

pub has_later : (first : ℕ) (locks : List ℕ) (lock : ℕ) → has_lock locks lock ≡ true → has_lock (first ∷ locks) lock ≡ true
has_later first locks lock has = or_right (first == lock) (has_lock locks lock) has

pub has_cases : (lock first : ℕ) (locks : List ℕ) → has_lock (first ∷ locks) lock ≡ true → (first ≡ lock) ⊎ (has_lock locks lock ≡ true)
has_cases lock first locks has = elim (or_cases (first == lock) (has_lock locks lock) has) [
  | inl same ↦ inl (eqb-true first lock same)
  | inr among ↦ inr among
]
