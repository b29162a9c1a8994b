-- Counts of elements, and the numbers after as many.
use Rattle.std.proofs.Common.{◌≡◌, ◌<◌, ◌≤◌, ℕ, zero, suc, List, [], ◌∷◌, length, get_or, map, Option, Some, None}
use Rattle.std.proofs.Common.{Bool, true, false, ◌==◌, ◌||◌, nat_lt, if◌then◌else◌, refl, sym, ap, arith}
use Rattle.std.proofs.lemmas.Bool.Decides.{nat_tests}
use Rattle.ido_base.specs.declared.limits.TheConstants.{MOST_ELEMENTS}
use Rattle.c_tree.specs.Trees as t
use Rattle.c_tree.specs.TypeRules.{numbers_past, broken, length_faults}
use Rattle.c_tree.specs.Names.{element_count, length_number}
use Rattle.c_tree.specs.Views.{signed_of}
use Rattle.c_tree.specs.declared.rule.Rule.TheVariants as rule
use Rattle.c_tree.specs.declared.tree.Signed.{Signed}

pub past_at : (xs : List Signed) (count : ℕ) (x : Signed) → count < length xs → x ≡ get_or xs count x
    → numbers_past count (map signed_of xs) ≡ broken rule.Count x.place
past_at [] count x below is = absurd (omega arith)
past_at (y ∷ ys) zero x below is = ap (λ (z : Signed). broken rule.Count z.place) (sym is)
past_at (y ∷ ys) (suc count) x below is = past_at ys count x (omega arith) is

pub past_none : (xs : List Signed) (count : ℕ) → length xs ≤ count → numbers_past count (map signed_of xs) ≡ []
past_none [] count within = refl
past_none (y ∷ ys) zero within = absurd (omega arith)
past_none (y ∷ ys) (suc count) within = past_none ys count (omega arith)

-- a number that isn't past the most elements
not_past : (elements : ℕ) → (elements == 0 || nat_lt MOST_ELEMENTS elements) ≡ false → elements ≤ MOST_ELEMENTS
not_past elements e = grind (arith, nat_tests)

pub within : (size : Option t.Length) → length_faults size ≡ [] → element_count size ≤ 4096
within None none = omega arith
within (Some x) none = go (length_number x == 0 || nat_lt MOST_ELEMENTS (length_number x)) refl none
  where
    go : (b : Bool) → (length_number x == 0 || nat_lt MOST_ELEMENTS (length_number x)) ≡ b → (if b then broken rule.Length x.place else []) ≡ []
        → length_number x ≤ 4096
    go true e none = absurd (cc)
    go false e none = not_past (length_number x) e
