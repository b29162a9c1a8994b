-- The kind of a literal holds its number.
use Rattle.std.proofs.Common.{◌≡◌, ℕ, Bool, true, false, cond, List, [], ◌∷◌, Some, refl, subst, arith}
use Rattle.std.specs.Prelude.{ℤ, pos, int_le, find}
use Rattle.std.proofs.lemmas.Bool.{and_parts}
use Rattle.std.proofs.lemmas.Int.{ints}
use Rattle.ido_ints.specs.declared.kinds.Kind.{Kind}
use Rattle.ido_ints.specs.declared.literals.Base.{Base}
use Rattle.ido_ints.specs.declared.literals.Suffix.{Suffix}
use Rattle.ido_ints.specs.Kinds.{Holds, holds, least_of, greatest_of}
use Rattle.ido_ints.specs.Literals.{kinds_of, literal_kind_of}

-- what a search finds passes its test
find_passes : {X : Type 0} (p : X → Bool) (xs : List X) (x : X) → find p xs ≡ Some x → p x ≡ true
find_passes p [] x e = cc
find_passes {X} p (y ∷ ys) x e = by (find_passes p ys x) (p y) refl e
  where
    by : (find p ys ≡ Some x → p x ≡ true) → (b : Bool) → p y ≡ b → cond b (Some y) (find p ys) ≡ Some x → p x ≡ true
    by later true q h = let same : y ≡ x = cc in subst (λ z. p z ≡ true) same q
    by later false q h = later h

-- the test says what it tests
pub Holds-holds : (k : Kind) (z : ℤ) → holds k z ≡ true → Holds k z
Holds-holds k z e =
    let both = and_parts (int_le (least_of k) z) (int_le z (greatest_of k)) e in
    let low = both.0 in
    let high = both.1 in
    record { from_least = omega (arith, ints); to_greatest = omega (arith, ints) }

pub literal_kind_of-Holds : (base : Base) (suffix : Suffix) (n : ℕ) (k : Kind) → literal_kind_of base suffix n ≡ Some k → Holds k (pos n)
literal_kind_of-Holds base suffix n k e = Holds-holds k (pos n) (find_passes (λ j. holds j (pos n)) (kinds_of base suffix) k e)
