-- Lists of answers, and one of them changed.
use Rattle.std.proofs.Common.{◌≡◌, ◌⊎◌, inl, inr, ℕ, zero, suc, ◌<◌, Bool, true, false, List, [], ◌∷◌, ◌++◌, length, set, map, Some, refl, ap, sym, ◌∙◌, arith}
use Rattle.std.specs.Prelude.{slice_get}

pub get_set_same : {A : Type 0} (xs : List A) (g : ℕ) (y : A) → g < length xs → slice_get (set xs g y) g ≡ Some y
get_set_same [] g y l = absurd (omega arith)
get_set_same (x ∷ xs) zero y l = refl
get_set_same (x ∷ xs) (suc g) y l = get_set_same xs g y (omega arith)

pub get_set_other : {A : Type 0} (xs : List A) (g h : ℕ) (y : A) → (h ≡ g → ⊥) → slice_get (set xs g y) h ≡ slice_get xs h
get_set_other [] g h y ne = refl
get_set_other (x ∷ xs) zero zero y ne = absurd (ne refl)
get_set_other (x ∷ xs) zero (suc h) y ne = refl
get_set_other (x ∷ xs) (suc g) zero y ne = refl
get_set_other (x ∷ xs) (suc g) (suc h) y ne = get_set_other xs g h y (λ e. ne (ap suc e))

-- what holds with one answer turned to no, held before
pub had : (xs : List Bool) (g h : ℕ) → slice_get (set xs g false) h ≡ Some true → slice_get xs h ≡ Some true
had [] g h e = e
had (x ∷ xs) zero zero e = cc
had (x ∷ xs) zero (suc h) e = e
had (x ∷ xs) (suc g) zero e = e
had (x ∷ xs) (suc g) (suc h) e = had xs g h e

-- an answer that is turned and turned back
pub set_back : (xs : List Bool) (n : ℕ) → slice_get xs n ≡ Some true → set (set xs n false) n true ≡ xs
set_back [] n e = refl
set_back (x ∷ xs) zero e = let same : x ≡ true = cc in ap (λ (y : Bool). y ∷ xs) (sym same)
set_back (x ∷ xs) (suc n) e = ap (λ (ys : List Bool). x ∷ ys) (set_back xs n e)

-- an element of which the answer is yes
pub record Asked {A : Type 0} (p : A → Bool) (xs : List A) (n : ℕ) : Type 0 where
  pub is : A
  pub at : slice_get xs n ≡ Some is
  pub yes : p is ≡ true

pub asked : {A : Type 0} (p : A → Bool) (xs : List A) (n : ℕ) → slice_get (map p xs) n ≡ Some true → Asked p xs n
asked p [] n e = absurd (cc)
asked p (x ∷ xs) zero e = record { is = x; at = refl; yes = cc }
asked p (x ∷ xs) (suc n) e = let k = asked p xs n e in record { is = k.is; at = k.at; yes = k.yes }

pub answered : {A : Type 0} (p : A → Bool) (xs : List A) (n : ℕ) (x : A) → slice_get xs n ≡ Some x → p x ≡ true → slice_get (map p xs) n ≡ Some true
answered p [] n x at holds = absurd (cc)
answered p (y ∷ xs) zero x at holds = let same : y ≡ x = cc in ap (λ z. Some (p z)) same ∙ ap (λ (b : Bool). Some b) holds
answered p (y ∷ xs) (suc n) x at holds = answered p xs n x at holds

-- one more at the end
pub get_below : {A : Type 0} (xs : List A) (y : A) (k : ℕ) → k < length xs → slice_get (xs ++ y ∷ []) k ≡ slice_get xs k
get_below [] y k lt = absurd (omega arith)
get_below (x ∷ xs) y zero lt = refl
get_below (x ∷ xs) y (suc k) lt = get_below xs y k (omega arith)

pub get_last : {A : Type 0} (xs : List A) (y : A) → slice_get (xs ++ y ∷ []) (length xs) ≡ Some y
get_last [] y = refl
get_last (x ∷ xs) y = get_last xs y

pub some_same : {A : Type 0} (x y : A) → Some x ≡ Some y → x ≡ y
some_same x y e = cc

pub get_push : {A : Type 0} (xs : List A) (y : A) (k : ℕ) (z : A) → slice_get (xs ++ y ∷ []) k ≡ Some z →
    (slice_get xs k ≡ Some z) ⊎ ((k ≡ length xs) × (y ≡ z))
get_push [] y zero z e = inr (refl, some_same y z e)
get_push [] y (suc k) z e = absurd (cc)
get_push (x ∷ xs) y zero z e = inl e
get_push (x ∷ xs) y (suc k) z e = elim (get_push xs y k z e) [ inl old ↦ inl old | inr new ↦ inr (ap suc new.0, new.1) ]
