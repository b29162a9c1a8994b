-- The first of the faults that are noted: laws.
use Rattle.std.proofs.Common.{◌≡◌, ◌⊎◌, inl, inr, ℕ, ◌<◌, ◌≤◌, List, [], ◌∷◌, ◌++◌, Option, Some, None, zero, suc, subst, Bool}
use Rattle.std.proofs.Common.{true, false, nat_lt, ◌==◌, ◌&&◌, ◌||◌, if◌then◌else◌, Contains, refl, ap, sym, ◌∙◌, arith}
use Rattle.ido_base.specs.declared.place.Place.{Place}
use Rattle.c_tree.specs.LexicalScan.{Fault}
use Rattle.c_tree.specs.TypeRules.{order_of, IsNotAfter, IsFirst}
use Rattle.c_typer.specs.links.FirstFaults.{comes_before, earlier, noted}
use Rattle.std.proofs.lemmas.Bool.Decides.{nat_tests}

pub noted_append : (first : Option Fault) (xs ys : List Fault) → noted first (xs ++ ys) ≡ noted (noted first xs) ys
noted_append first [] ys = refl
noted_append first (x ∷ xs) ys = noted_append (earlier first x) xs ys

-- ---- Nothing is noted where nothing is broken

never_none : (first : Option Fault) (x : Fault) → earlier first x ≡ None → ⊥
never_none None x e = cc
never_none (Some y) x e = go (comes_before x y) e
  where
    go : (b : Bool) → (if b then Some x else Some y) ≡ None → ⊥
    go true e = cc
    go false e = cc

pub noted_none : (first : Option Fault) (xs : List Fault) → noted first xs ≡ None → (first ≡ None) × (xs ≡ [])
noted_none first [] e = (e, refl)
noted_none first (x ∷ xs) e = absurd (never_none first x (noted_none (earlier first x) xs e).0)

-- ---- What is noted is the first

numbers_true : (a b o p : ℕ) → (nat_lt a b || ((a == b) && nat_lt o p)) ≡ true → (a < b) ⊎ ((a ≡ b) × (o ≤ p))
numbers_true a b o p e = grind (arith, nat_tests)

numbers_false : (a b o p : ℕ) → (nat_lt a b || ((a == b) && nat_lt o p)) ≡ false → (b < a) ⊎ ((b ≡ a) × (p ≤ o))
numbers_false a b o p e = grind (arith, nat_tests)

by_numbers : (x y : Fault) → (x.place.0 < y.place.0) ⊎ ((x.place.0 ≡ y.place.0) × (order_of x.rule ≤ order_of y.rule)) → IsNotAfter x y
by_numbers x y (inl h) = inl h
by_numbers x y (inr h) = let place : ℕ → Place = λ n. record { 0 = n } in inr (ap place h.0, h.1)

to_numbers : (x y : Fault) → IsNotAfter x y → (x.place.0 < y.place.0) ⊎ ((x.place.0 ≡ y.place.0) × (order_of x.rule ≤ order_of y.rule))
to_numbers x y (inl h) = inl h
to_numbers x y (inr h) = inr (ap (λ (p : Place). p.0) h.0, h.1)

before_true : (x y : Fault) → comes_before y x ≡ true → IsNotAfter y x
before_true x y e = by_numbers y x (numbers_true y.place.0 x.place.0 (order_of y.rule) (order_of x.rule) e)

before_false : (x y : Fault) → comes_before y x ≡ false → IsNotAfter x y
before_false x y e = by_numbers x y (numbers_false y.place.0 x.place.0 (order_of y.rule) (order_of x.rule) e)

numbers_through : (a b c o p q : ℕ) → (a < b) ⊎ ((a ≡ b) × (o ≤ p)) → (b < c) ⊎ ((b ≡ c) × (p ≤ q)) → (a < c) ⊎ ((a ≡ c) × (o ≤ q))
numbers_through a b c o p q (inl h) (inl k) = inl (omega arith)
numbers_through a b c o p q (inl h) (inr k) = inl (omega arith)
numbers_through a b c o p q (inr h) (inl k) = inl (omega arith)
numbers_through a b c o p q (inr h) (inr k) = inr (omega arith, omega arith)

through : (x y z : Fault) → IsNotAfter x y → IsNotAfter y z → IsNotAfter x z
through x y z h k =
    by_numbers x z (numbers_through x.place.0 y.place.0 z.place.0 (order_of x.rule) (order_of y.rule) (order_of z.rule) (to_numbers x y h) (to_numbers y z k))

never_after : (x : Fault) → IsNotAfter x x
never_after x = inr (refl, omega arith)

-- g is the first of the faults and of what came before
record IsFirstOf (first : Option Fault) (xs : List Fault) (g : Fault) : Type 0 where
  found : (first ≡ Some g) ⊎ Contains xs g
  not_before : (f : Fault) → first ≡ Some f → IsNotAfter g f
  least : (f : Fault) → Contains xs f → IsNotAfter g f

contains_here : (x : Fault) (xs : List Fault) (f : Fault) → x ≡ f → Contains (x ∷ xs) f
contains_here x xs f e = (zero, omega arith, e)

contains_there : (x : Fault) (xs : List Fault) (f : Fault) → Contains xs f → Contains (x ∷ xs) f
contains_there x xs f (k, below, e) = (suc k, omega arith, e)

contains_cases : (x : Fault) (xs : List Fault) (f : Fault) → Contains (x ∷ xs) f → (x ≡ f) ⊎ Contains xs f
contains_cases x xs f (zero, below, e) = inl e
contains_cases x xs f (suc k, below, e) = inr (k, omega arith, e)

some_same : (x y : Fault) → Some x ≡ Some y → x ≡ y
some_same x y e = cc

-- z is the first of what came before and of x
one_step : (first : Option Fault) (x z : Fault) (xs : List Fault) (g : Fault) → (first ≡ Some z) ⊎ (x ≡ z) → IsNotAfter z x
    → ((f : Fault) → first ≡ Some f → IsNotAfter z f)
    → IsFirstOf (Some z) xs g → IsFirstOf first (x ∷ xs) g
one_step first x z xs g which after before h =
    record { found = found h.found; not_before = λ f e. through g z f (h.not_before z refl) (before f e); least = least }
  where
    of_which : (first ≡ Some z) ⊎ (x ≡ z) → z ≡ g → (first ≡ Some g) ⊎ Contains (x ∷ xs) g
    of_which (inl e) same = inl (e ∙ ap Some same)
    of_which (inr e) same = inr (contains_here x xs g (e ∙ same))

    found : (Some z ≡ Some g) ⊎ Contains xs g → (first ≡ Some g) ⊎ Contains (x ∷ xs) g
    found (inl e) = of_which which (some_same z g e)
    found (inr c) = inr (contains_there x xs g c)

    at_cases : (f : Fault) → (x ≡ f) ⊎ Contains xs f → IsNotAfter g f
    at_cases f (inl e) = subst (IsNotAfter g) e (through g z x (h.not_before z refl) after)
    at_cases f (inr c) = h.least f c

    least : (f : Fault) → Contains (x ∷ xs) f → IsNotAfter g f
    least f c = at_cases f (contains_cases x xs f c)

-- one more after the first so far, whichever of the two stands before
step : (y x : Fault) (xs : List Fault) (g : Fault) → ((z : Fault) → noted (Some z) xs ≡ Some g → IsFirstOf (Some z) xs g)
    → (b : Bool) → comes_before x y ≡ b → noted (if b then Some x else Some y) xs ≡ Some g → IsFirstOf (Some y) (x ∷ xs) g
step y x xs g rest true t e =
    one_step (Some y) x x xs g (inr refl) (never_after x) (λ f h. subst (IsNotAfter x) (some_same y f h) (before_true y x t)) (rest x e)
step y x xs g rest false t e =
    one_step (Some y) x y xs g (inl refl) (before_false y x t) (λ f h. subst (IsNotAfter y) (some_same y f h) (never_after y)) (rest y e)

never_some : (f : Fault) → None ≡ Some f → ⊥
never_some f h = cc

noted_first : (first : Option Fault) (xs : List Fault) (g : Fault) → noted first xs ≡ Some g → IsFirstOf first xs g
noted_first first [] g e = record {
  found = inl e;
  not_before = λ f h. subst (IsNotAfter g) (some_same g f (sym e ∙ h)) (never_after g);
  least = λ f c. absurd (omega (arith, c.1));
}
noted_first None (x ∷ xs) g e = one_step None x x xs g (inr refl) (never_after x) (λ f h. absurd (never_some f h)) (noted_first (Some x) xs g e)
noted_first (Some y) (x ∷ xs) g e = step y x xs g (λ z h. noted_first (Some z) xs g h) (comes_before x y) refl e

pub first_is_first : (xs : List Fault) (g : Fault) → noted None xs ≡ Some g → IsFirst xs g
first_is_first xs g e = let h = noted_first None xs g e in record { found = found h.found; first = h.least }
  where
    found : (None ≡ Some g) ⊎ Contains xs g → Contains xs g
    found (inl e) = absurd (cc e)
    found (inr c) = c
