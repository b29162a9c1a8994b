-- Outcomes of points that follow one another.
use Rattle.std.specs.Prelude.{◌≡◌, ℕ, ◌+◌, List, [], ◌∷◌, length}

-- each is that of its point, the first of them that of this one
abbrev pub AreFrom : {A : Type 0} → (is_outcome : ℕ → A → Type 0) → (first : ℕ) → List A → Type 0
AreFrom is_outcome first [] = Unit {0}
AreFrom is_outcome first (o ∷ os) = is_outcome first o × AreFrom is_outcome (first + 1) os

-- so many outcomes, from that of this point on, in order
pub record AreOutcomes {A : Type 0} (is_outcome : ℕ → A → Type 0) (first count : ℕ) (outcomes : List A) : Type 0 where
  pub len : length outcomes ≡ count
  pub each : AreFrom is_outcome first outcomes
