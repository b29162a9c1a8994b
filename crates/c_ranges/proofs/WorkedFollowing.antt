-- Worked rows: numbers that refer, and what a thread has left to follow.
use Rattle.std.proofs.Common.{◌≡◌, ◌⊎◌, inl, inr, refl, sym, subst, ℕ, ◌==◌, List, [], ◌∷◌, ◌++◌, None, Bool, true, false, arith}
use Rattle.std.specs.Prelude.{ℤ, pos, ◌≤ℤ◌, if◌then◌else◌}
use Rattle.std.proofs.lemmas.Bool.{eqb-true, or_cases, true≢false}
use Rattle.std.proofs.lemmas.Int.{ints}
use Rattle.ido_base.specs.declared.place.Place.{Place}
use Rattle.ido_ints.specs.declared.kinds.Kind.TheVariants.{Long, UnsignedLong}
use Rattle.ido_ints.specs.declared.operators.Binary.TheVariants.{NotEqual}
use Rattle.ido_ints.specs.TypedNumbers.{typed}
use Rattle.c_tree.specs.Exprs as e
use Rattle.c_tree.specs.Flats as f
use Rattle.c_tree.specs.NullReferences.{is_among}
use Rattle.c_ranges.specs.KnownAtSteps.{knowns, thread_knowns}
use Rattle.c_ranges.specs.Laws.{IsReference, IsNullOrReference, AreFollowed}
use Rattle.c_ranges.specs.RunInvariants.{RefersSo, IsSure, AreKnownLeft}

-- of an array of four elements 1 to 4 are references, and 0 is null
last_one : IsReference 3 (pos 4)
last_one = record {
  held = record { from_least = omega (arith, ints); to_greatest = omega (arith, ints) };
  names = record { from_low = omega (arith, ints); to_high = omega (arith, ints) };
}

null_is_none : ¬ (IsReference 3 (pos 0))
null_is_none h = let low : pos 1 ≤ℤ pos 0 = h.names.from_low in absurd (omega (arith, ints, low))

past_the_last : ¬ (IsReference 3 (pos 5))
past_the_last h = let high : pos 5 ≤ℤ pos 4 = h.names.to_high in absurd (omega (arith, ints, high))

null_may_be : IsNullOrReference 4 (pos 0)
null_may_be = record {
  held = record { from_least = omega (arith, ints); to_greatest = omega (arith, ints) };
  names = record { from_low = omega (arith, ints); to_high = omega (arith, ints) };
}

out_of_it : ¬ (IsNullOrReference 4 (pos 5))
out_of_it h = let high : pos 5 ≤ℤ pos 4 = h.names.to_high in absurd (omega (arith, ints, high))

-- what refers to nothing has any number
any_number : RefersSo [] None (pos 5)
any_number = tt

-- ---- What is left

abbrev at : ℕ → Place
at place = record { 0 = place }

abbrev null : e.Expr
null = e.Constant (typed UnsignedLong (pos 0))

-- `p`, the first local, and `*p`
abbrev reference : e.Expr
reference = e.Local 0 UnsignedLong

abbrev through : e.Expr
through = e.Element (at 1) 0 Long (at 1) (e.Referent (at 1) 3 0)

-- `*p = 0;`, `p = null;` and `if (p != null) { *p = 0; }`
abbrev clear : f.Statement
clear =
    f.Assign (at 1) (e.ToElement (at 1) 0 Long (record { place = at 1; expr = e.Referent (at 1) 3 0 }))
    (record { place = at 2; expr = e.Constant (typed Long (pos 0)) })

abbrev forget : f.Statement
forget = f.Assign (at 3) (e.ToLocal (at 3) 0 UnsignedLong) (record { place = at 4; expr = null })

abbrev tested : f.Statement
tested =
    f.If (at 5) (f.arm_and (record { place = at 6; expr = e.Binary NotEqual reference null }) (f.statement_and clear f.no_statement) f.no_arm) f.no_statement

followed : AreFollowed (pos 4 ∷ []) through
followed = last_one

followed_null : ¬ (AreFollowed (pos 0 ∷ []) through)
followed_null h = null_is_none h

-- a block whose condition says so follows it, whatever it is
says_so : AreKnownLeft (pos 0 ∷ []) [] (tested ∷ [])
says_so = (record { known = []; sure = λ local among. absurd (true≢false (sym among)); never_null = refl }, tt)

-- one that isn't null is followed until it is assigned
sure_now : IsSure (pos 4 ∷ []) [] 0
sure_now = record { some = λ same. let four : pos 4 ≡ pos 0 = same in cc; kept = refl }

forgotten : ¬ (IsSure (pos 4 ∷ []) (0 ∷ []) 0)
forgotten h = true≢false h.kept

never_sure : ¬ (IsSure (pos 0 ∷ []) [] 0)
never_sure h = h.some refl

first_alone : (local : ℕ) → is_among (0 ∷ []) local ≡ true → IsSure (pos 4 ∷ []) [] local
first_alone local among = subst (IsSure (pos 4 ∷ []) []) (only (or_cases (0 == local) false among)) sure_now
  where
    only : ((0 == local) ≡ true) ⊎ (false ≡ true) → 0 ≡ local
    only (inl is) = eqb-true 0 local is
    only (inr other) = absurd (true≢false (sym other))

before_it : AreKnownLeft (pos 4 ∷ []) [] (clear ∷ forget ∷ [])
before_it = (
  record { known = 0 ∷ []; sure = first_alone; never_null = refl },
  (record { known = []; sure = λ local among. absurd (true≢false (sym among)); never_null = refl }, tt),
)

after_it : ¬ (AreKnownLeft (pos 4 ∷ []) [] (forget ∷ clear ∷ []))
after_it h = by (is_among h.1.0.known 0) refl h.1.0.never_null
  where
    by : (b : Bool) → is_among h.1.0.known 0 ≡ b → ◌≡◌ {A = List Place} ((if b then [] else at 1 ∷ []) ++ []) [] → ⊥
    by true e k = true≢false (h.1.0.sure 0 e).kept
    by false e k = let one : at 1 ∷ [] ≡ [] = k in cc

-- ---- Before steps

-- in `if (p != null) { *p = 0; }` it is known before the assignment and before its store, and not before the test
known_in_block : knowns [] tested ≡ [] ∷ (0 ∷ []) ∷ (0 ∷ []) ∷ []
known_in_block = refl

-- it is nowhere in a block that assigns it, and not in `else`
abbrev assigned_inside : f.Statement
assigned_inside =
    f.If (at 5)
    (f.arm_and (record { place = at 6; expr = e.Binary NotEqual reference null }) (f.statement_and clear (f.statement_and forget f.no_statement)) f.no_arm)
    (f.statement_and clear f.no_statement)

known_nowhere : knowns [] assigned_inside ≡ [] ∷ [] ∷ [] ∷ [] ∷ [] ∷ [] ∷ []
known_nowhere = refl

-- in a loop within a block it still is
known_in_loop : knowns (0 ∷ []) (f.While (at 7) (record { place = at 8; expr = reference }) (f.statement_and clear f.no_statement)) ≡
    (0 ∷ []) ∷ (0 ∷ []) ∷ (0 ∷ []) ∷ []
known_in_loop = refl

-- after the block it isn't, and at the end nothing is
known_by_thread : thread_knowns (record {
  name = record { text = []; place = at 0 };
  locals = UnsignedLong ∷ [];
  refers = None ∷ [];
  body = f.statement_and tested (f.statement_and forget f.no_statement);
  closing = at 9;
}) ≡ [] ∷ (0 ∷ []) ∷ (0 ∷ []) ∷ [] ∷ [] ∷ []
known_by_thread = refl
