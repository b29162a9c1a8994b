-- Names of a thread by their numbers, and the held ones from a number on.
use Rattle.std.proofs.Common.{◌≡◌, ◌<◌, ◌≤◌, ℕ, zero, suc, ◌+◌, List, [], ◌∷◌, length, drop, get_or, Some, None, Bool, true, false, cond, ◌&&◌, find}
use Rattle.std.proofs.Common.{refl, sym, ap, ◌∙◌, arith}
use Rattle.std.specs.Prelude.{slice_get, slice_index_or}
use Rattle.std.proofs.lemmas.List.{drop_all}
use Rattle.c_tree.specs.Exprs.{LockName, lock_ref_of}
use Rattle.c_tree.specs.declared.expr.LockRef.{LockRef}
use Rattle.c_tree.specs.LockNames.{Held, holds, held_names}
use Rattle.c_tree.specs.links.KnownNames.{names_of}

-- ---- The name of a number

pub ref_at : (xs : List LockRef) (i : ℕ) (y : LockRef) → i < length xs → y ≡ get_or xs i y → slice_get (names_of xs) i ≡ Some (lock_ref_of y)
ref_at [] i y low is = absurd (omega (arith, low))
ref_at (x ∷ xs) zero y low is = ap (λ (z : LockRef). Some (lock_ref_of z)) (sym is)
ref_at (x ∷ xs) (suc i) y low is = ref_at xs i y (omega (arith, low)) is

pub ref_or : (xs : List LockRef) (i : ℕ) (d : LockName) (y : LockRef) → slice_get xs i ≡ Some y → lock_ref_of y ≡ slice_index_or (names_of xs) i d
ref_or [] i d y e = absurd (cc)
ref_or (x ∷ xs) zero d y e = let is : x ≡ y = cc in ap lock_ref_of (sym is)
ref_or (x ∷ xs) (suc i) d y e = ref_or xs i d y e

pub no_ref : (xs : List LockRef) (i : ℕ) (d : LockName) → slice_get xs i ≡ None → d ≡ slice_index_or (names_of xs) i d
no_ref [] i d e = refl
no_ref (x ∷ xs) zero d e = absurd (cc)
no_ref (x ∷ xs) (suc i) d e = no_ref xs i d e

-- ---- Those that are held

none_held_names : (xs : List LockName) → held_names xs [] ≡ []
none_held_names [] = refl
none_held_names (x ∷ xs) = refl

-- the name of a number is the next of them, where it is held
pub next_held : (xs : List LockName) (h : Held) (i : ℕ) (y : LockName) → slice_get xs i ≡ Some y →
    held_names (drop i xs) (drop i h)
    ≡ cond (holds h i) (y ∷ held_names (drop (suc i) xs) (drop (suc i) h)) (held_names (drop (suc i) xs) (drop (suc i) h))
next_held [] h i y e = absurd (cc)
next_held (x ∷ xs) [] zero y e = sym (none_held_names xs)
next_held (x ∷ xs) [] (suc i) y e = none_held_names (drop i xs) ∙ sym (none_held_names (drop (suc i) xs))
next_held (x ∷ xs) (true ∷ h) zero y e = let is : x ≡ y = cc in ap (λ (z : LockName). z ∷ held_names xs h) is
next_held (x ∷ xs) (false ∷ h) zero y e = refl
next_held (x ∷ xs) (b ∷ h) (suc i) y e = next_held xs h i y e

taken_first : (p : LockName → Bool) (b : Bool) (y : LockName) (ys : List LockName) → find p (cond b (y ∷ ys) ys) ≡ cond (b && p y) (Some y) (find p ys)
taken_first p true y ys = refl
taken_first p false y ys = refl

-- the first held name that passes, from a number on
pub found_from : (p : LockName → Bool) (xs : List LockName) (h : Held) (i : ℕ) (y : LockName) (b : Bool) → slice_get xs i ≡ Some y →
    (holds h i && p y) ≡ b → find p (held_names (drop i xs) (drop i h)) ≡ cond b (Some y) (find p (held_names (drop (i + 1) xs) (drop (i + 1) h)))
found_from p xs h i y b is e =
    let next : suc i ≡ i + 1 = omega arith in
    ap (find p) (next_held xs h i y is)
    ∙ (taken_first p (holds h i) y (held_names (drop (suc i) xs) (drop (suc i) h))
    ∙ (ap (λ (c : Bool). cond c (Some y) (find p (held_names (drop (suc i) xs) (drop (suc i) h)))) e
    ∙ ap (λ (n : ℕ). cond b (Some y) (find p (held_names (drop n xs) (drop n h)))) next))

pub none_from : (p : LockName → Bool) (xs : List LockName) (h : Held) (i : ℕ) → length xs ≤ i → find p (held_names (drop i xs) (drop i h)) ≡ None
none_from p xs h i low = ap (λ (ys : List LockName). find p (held_names ys (drop i h))) (drop_all i xs low)
