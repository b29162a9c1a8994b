-- Places of lists.
use Rattle.std.proofs.Common.{◌≡◌, ◌≢◌, ℕ, zero, suc, ◌+◌, ◌<◌, List, [], ◌∷◌, ◌++◌, length, map, replicate, get_or, slice_get}
use Rattle.std.proofs.Common.{slice_set, Some, ◌⊎◌, inl, inr, refl, sym, ◌∙◌, ap, subst, arith, get_or-set_same, get_or-set_other}
use Rattle.std.proofs.lemmas.Bool.{cases_eq}
use Rattle.log_schemes.specs.Schemes.{numbers_from}

-- what was written is what is found there
pub set_same : {X : Type 0} (xs : List X) (n : ℕ) (y z : X) → slice_get (slice_set xs n y) n ≡ Some z → y ≡ z
set_same [] n y z e = cc
set_same (x ∷ xs) zero y z e = cc
set_same (x ∷ xs) (suc n) y z e = set_same xs n y z e

-- elsewhere nothing has changed
pub set_other : {X : Type 0} (xs : List X) (i n : ℕ) (y : X) → n ≢ i → slice_get (slice_set xs i y) n ≡ slice_get xs n
set_other [] i n y ne = refl
set_other (x ∷ xs) zero zero y ne = absurd (ne refl)
set_other (x ∷ xs) zero (suc n) y ne = refl
set_other (x ∷ xs) (suc i) zero y ne = refl
set_other (x ∷ xs) (suc i) (suc n) y ne = set_other xs i n y (λ e. ne (ap suc e))

-- a place that exists has something
pub get_some : {X : Type 0} (xs : List X) (n : ℕ) → n < length xs → (x : X) × (slice_get xs n ≡ Some x)
get_some [] n within = absurd (omega arith)
get_some (x ∷ xs) zero within = (x, refl)
get_some (x ∷ xs) (suc n) within = get_some xs n (omega arith)

-- what is found in a list with one more element is that one, or was there
pub get_push : {X : Type 0} (xs : List X) (n : ℕ) (y z : X) → slice_get (xs ++ y ∷ []) n ≡ Some z → (slice_get xs n ≡ Some z) ⊎ ((n ≡ length xs) × (y ≡ z))
get_push [] zero y z e = inr (refl, cc)
get_push [] (suc n) y z e = cc
get_push (x ∷ xs) zero y z e = inl e
get_push (x ∷ xs) (suc n) y z e = elim (get_push xs n y z e) [
  | inl was ↦ inl was
  | inr p ↦ inr (ap suc p.0, p.1)
]

-- the n-th of a function of numbers
pub get_numbers : {X : Type 0} (f : ℕ → X) (at count n : ℕ) (x : X) → slice_get (map f (numbers_from at count)) n ≡ Some x → f (at + n) ≡ x
get_numbers f at zero n x e = cc
get_numbers f at (suc count) zero x e = let same : at + 0 ≡ at = omega arith in ap f same ∙ there (f at) x e
  where
    there : {X : Type 0} (a b : X) → Some a ≡ Some b → a ≡ b
    there a b e = cc
get_numbers f at (suc count) (suc n) x e = let same : at + suc n ≡ at + 1 + n = omega arith in ap f same ∙ get_numbers f (at + 1) count n x e

pub length-numbers : {X : Type 0} (f : ℕ → X) (at count : ℕ) → length (map f (numbers_from at count)) ≡ count
length-numbers f at zero = refl
length-numbers f at (suc count) = ap suc (length-numbers f (at + 1) count)

-- the element of a place
pub get_is : {X : Type 0} (xs : List X) (n : ℕ) (d : X) → n < length xs → slice_get xs n ≡ Some (get_or xs n d)
get_is [] n d within = absurd (omega arith)
get_is (x ∷ xs) zero d within = refl
get_is (x ∷ xs) (suc n) d within = get_is xs n d (omega arith)

-- the n-th of a mapped list, by its function
pub get_map : {X Y : Type 0} (f : X → Y) (xs : List X) (n : ℕ) (x : X) (d : Y) → slice_get xs n ≡ Some x → get_or (map f xs) n d ≡ f x
get_map f [] n x d e = cc
get_map f (y ∷ ys) zero x d e = ap f (here y x e)
  where
    here : {X : Type 0} (a b : X) → Some a ≡ Some b → a ≡ b
    here a b e = cc
get_map f (y ∷ ys) (suc n) x d e = get_map f ys n x d e

-- a place is written before or after the function is applied
pub map_set : {X Y : Type 0} (f : X → Y) (xs : List X) (n : ℕ) (x : X) → map f (slice_set xs n x) ≡ slice_set (map f xs) n (f x)
map_set f [] n x = refl
map_set f (y ∷ ys) zero x = refl
map_set f (y ∷ ys) (suc n) x = ap (λ (zs : List _). f y ∷ zs) (map_set f ys n x)

-- a function of a function
pub map_map : {X Y Z : Type 0} (g : Y → Z) (f : X → Y) (xs : List X) → map g (map f xs) ≡ map (λ x. g (f x)) xs
map_map g f [] = refl
map_map g f (x ∷ xs) = ap (λ (zs : List _). g (f x) ∷ zs) (map_map g f xs)

-- a constant function of numbers
pub map_constant : {X : Type 0} (x : X) (at count : ℕ) → map (λ (n : ℕ). x) (numbers_from at count) ≡ replicate count x
map_constant x at zero = refl
map_constant x at (suc count) = ap (λ (xs : List _). x ∷ xs) (map_constant x (at + 1) count)

-- a list whose places are those of a function of numbers
pub from_each : {X : Type 0} (f : ℕ → X) (at : ℕ) (xs : List X) (d : X) → ((n : ℕ) → n < length xs → get_or xs n d ≡ f (at + n)) →
    xs ≡ map f (numbers_from at (length xs))
from_each f at [] d each = refl
from_each f at (x ∷ xs) d each =
    let first : x ≡ f at = each 0 (omega arith) ∙ (let e : at + 0 ≡ at = omega arith in ap f e) in
    let rest : xs ≡ map f (numbers_from (at + 1) (length xs)) =
    from_each f (at + 1) xs d (λ n below. each (suc n) (omega (arith, below)) ∙ (let e : at + suc n ≡ at + 1 + n = omega arith in ap f e)) in
    ap (λ (y : _). y ∷ xs) first ∙ ap (λ (ys : List _). f at ∷ ys) rest

-- one place more that has what a function of its number says
pub set_next : {X : Type 0} (f : ℕ → X) (xs : List X) (n : ℕ) (x d : X) → n < length xs → x ≡ f n → ((i : ℕ) → i < n → get_or xs i d ≡ f i) → (i : ℕ) →
    i < n + 1 → get_or (slice_set xs n x) i d ≡ f i
set_next f xs n x d within is before i below = elim (cases_eq i n) [
  | inl same ↦ subst (λ (j : ℕ). get_or (slice_set xs n x) j d ≡ f j) (sym same) (get_or-set_same xs n x d within ∙ is)
  | inr other ↦ get_or-set_other xs n i x d other ∙ before i (omega (arith, other, below))
]
