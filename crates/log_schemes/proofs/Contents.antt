-- What a list contains.
use Rattle.std.proofs.Common.{◌≡◌, ◌⊎◌, inl, inr, zero, suc, List, [], ◌∷◌, refl, arith, sym}
use Rattle.std.specs.List.{Contains}

pub contains_none : {A : Type 0} (y : A) → Contains [] y → ⊥
contains_none y c = omega (arith, c.1)

pub contains_first : {A : Type 0} (x : A) (xs : List A) → Contains (x ∷ xs) x
contains_first x xs = (0, omega arith, refl)

pub contains_later : {A : Type 0} (x : A) (xs : List A) (y : A) → Contains xs y → Contains (x ∷ xs) y
contains_later x xs y c = (suc c.0, omega (arith, c.1), c.2)

pub contains_cases : {A : Type 0} (x : A) (xs : List A) (y : A) → Contains (x ∷ xs) y → (y ≡ x) ⊎ Contains xs y
contains_cases x xs y (zero, below, e) = inl (sym e)
contains_cases x xs y (suc k, below, e) = inr (k, omega (arith, below), e)
