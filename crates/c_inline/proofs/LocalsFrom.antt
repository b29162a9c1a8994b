-- What is said of locals, by their numbers: a list that stands in another one from a number on.
use Rattle.std.proofs.Common.{◌≡◌, subst, ℕ, zero, suc, ◌+◌, List, [], ◌∷◌, ◌++◌, length, Some, arith}
use Rattle.std.specs.Prelude.{slice_get}
use Rattle.std.specs.List.{AllByRecursion}
use Rattle.std.proofs.lemmas.Option.{none-some, same_Some}

pub all_at : {A : Type 0} (P : A → Type 0) (xs : List A) (k : ℕ) (x : A) → AllByRecursion P xs → slice_get xs k ≡ Some x → P x
all_at P [] k x h g = absurd (none-some x g)
all_at P (y ∷ ys) zero x h g = subst P (same_Some y x g) h.0
all_at P (y ∷ ys) (suc k) x h g = all_at P ys k x h.1 g

get_left : {A : Type 0} (xs ys : List A) (k : ℕ) (x : A) → slice_get xs k ≡ Some x → slice_get (xs ++ ys) k ≡ Some x
get_left [] ys k x h = absurd (none-some x h)
get_left (z ∷ xs) ys zero x h = h
get_left (z ∷ xs) ys (suc k) x h = get_left xs ys k x h

get_right : {A : Type 0} (xs ys : List A) (k : ℕ) (x : A) → slice_get ys k ≡ Some x → slice_get (xs ++ ys) (length xs + k) ≡ Some x
get_right [] ys k x h = let e : k ≡ 0 + k = omega arith in subst (λ (j : ℕ). slice_get ys j ≡ Some x) e h
get_right (z ∷ xs) ys k x h = let e : suc (length xs + k) ≡ suc (length xs) + k = omega arith in subst (λ (j : ℕ). slice_get (z ∷ (xs ++ ys)) j ≡ Some x) e
    (get_right xs ys k x h)

-- the one list from a number on in the other
abbrev pub At : {A : Type 0} → (by : ℕ) → List A → List A → Type 0
At {A} n js ks = (k : ℕ) (x : A) → slice_get js k ≡ Some x → slice_get ks (n + k) ≡ Some x

abbrev pub Into : {A : Type 0} → List A → List A → Type 0
Into {A} js ks = (k : ℕ) (x : A) → slice_get js k ≡ Some x → slice_get ks k ≡ Some x

pub into_self : {A : Type 0} (ks : List A) → Into ks ks
into_self ks = λ k x h. h

pub into_both : {A : Type 0} (is js ks : List A) → Into is js → Into js ks → Into is ks
into_both is js ks h g = λ k x e. g k x (h k x e)

pub at_into : {A : Type 0} (n : ℕ) (is js ks : List A) → At n is js → Into js ks → At n is ks
at_into n is js ks h g = λ k x e. g (n + k) x (h k x e)

pub into_append : {A : Type 0} (ks more : List A) → Into ks (ks ++ more)
into_append ks more = λ k x h. get_left ks more k x h

pub at_append : {A : Type 0} (ks more : List A) → At (length ks) more (ks ++ more)
at_append ks more = λ k x h. get_right ks more k x h

pub at_self : {A : Type 0} (ks : List A) → At 0 ks ks
at_self ks = λ k x h. subst (λ (j : ℕ). slice_get ks j ≡ Some x) (omega arith) h
