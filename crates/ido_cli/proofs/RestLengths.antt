-- The rest of an input is no longer than it.
use Rattle.std.proofs.Common.{◌≡◌, refl, ℕ, ◌≤◌, List, [], ◌∷◌, length, drop, ap, Bool, true, false, Option, Some, None, ◌==◌, arith, length-drop}
use Rattle.std.specs.Prelude.{nat_eq, if◌then◌else◌}
use Rattle.std.specs.Cmp.Lexicographic.{pointwise}
use Rattle.std.specs.List.{starts_with}
use Rattle.ido_base.specs.Places.{line_feed}
use Rattle.ido_cli.specs.Inputs.{after_mark, after_mark_at, last_mark, mark, mark_with_return, rest_from, rest_of}

some_is : {X : Type 0} (a b : X) → Some a ≡ Some b → a ≡ b
some_is a b h = cc

by_marks : (a b c : Bool) (text rest : List ℕ) →
    (let o : Option (List ℕ) = if a then Some (drop 3 text) else if b then Some (drop 4 text) else if c then Some [] else None in o ≡ Some rest) →
    length rest ≤ length text
by_marks true b c text rest h = let e = ap length (some_is (drop 3 text) rest h) in omega (arith, e, length-drop 3 text)
by_marks false true c text rest h = let e = ap length (some_is (drop 4 text) rest h) in omega (arith, e, length-drop 4 text)
by_marks false false true text rest h = let e = ap length (some_is [] rest h) in omega (arith, e)
by_marks false false false text rest h = absurd (cc h)

mark_short : (text rest : List ℕ) → after_mark text ≡ Some rest → length rest ≤ length text
unfolding after_mark
mark_short text rest h = by_marks (starts_with nat_eq text mark) (starts_with nat_eq text mark_with_return) (pointwise nat_eq text last_mark) text rest h

at_short : (begins : Bool) (text rest : List ℕ) → after_mark_at begins text ≡ Some rest → length rest ≤ length text
at_short true text rest h = mark_short text rest h
at_short false text rest h = absurd (cc h)

abbrev rest_by : (c : ℕ) (cs : List ℕ) → Option (List ℕ) → List ℕ
rest_by c cs o = elim o [
  | Some rest ↦ rest
  | None ↦ rest_from (c == line_feed) cs
]

from_by : (begins : Bool) (c : ℕ) (cs : List ℕ) (o : Option (List ℕ)) → after_mark_at begins (c ∷ cs) ≡ o →
    length (rest_from (c == line_feed) cs) ≤ length cs → length (rest_by c cs o) ≤ length (c ∷ cs)
from_by begins c cs (Some rest) e more = at_short begins (c ∷ cs) rest e
from_by begins c cs None e more = omega (arith, more)

from_short : (begins : Bool) (text : List ℕ) → length (rest_from begins text) ≤ length text
from_short begins [] = omega arith
from_short begins (c ∷ cs) = from_by begins c cs (after_mark_at begins (c ∷ cs)) refl (from_short (c == line_feed) cs)

pub rest_short : (input : List ℕ) → length (rest_of input) ≤ length input
unfolding rest_of
rest_short input = from_short true input
