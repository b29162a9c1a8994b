-- Passes that find what functions weigh.
use Rattle.std.proofs.Common.{◌≡◌, ℕ, ◌+◌, ◌<◌, ◌≤◌, List, length, get_or, Bool, true, false, Option, None, MatchBool, sym, ap, ◌∙◌, subst, arith, ⊎_elim}
use Rattle.std.specs.Prelude.{is_some}
use Rattle.std.proofs.lemmas.Bool.{cases_lt, MatchBool-at_true, MatchBool-at_false, false≢true}
use Rattle.std.proofs.lemmas.Option.{get_or_from_slice_get, slice_get_within}
use Rattle.c_tree.specs.Programs as p
use Rattle.c_inline.specs.links.KnownWeights.{IsUnknown, CallsUnknown, IsClosed, found}

pub unknown_is_none : (known : List (Option ℕ)) (g : ℕ) (x : Option ℕ) → x ≡ get_or known g x → is_some x ≡ true → IsUnknown known g → ⊥
unknown_is_none known g x is some unknown =
    let e : is_some x ≡ false = ap (is_some {T = ℕ}) (is ∙ get_or_from_slice_get known g None x unknown) in
    false≢true (sym e ∙ some)

pub after_found : (k0 k1 k2 : List (Option ℕ)) (f r : Bool) (Q R : Type 0) → found k0 ≤ found k1 → r ≡ true → MatchBool r (found k2 ≡ found k1 + 1) R →
    f ≡ true → MatchBool f (found k0 < found k2) Q
after_found k0 k1 k2 f r Q R le e b is =
    let m = MatchBool-at_true (found k2 ≡ found k1 + 1) R e b in
    subst (λ (x : Bool). MatchBool x (found k0 < found k2) Q) (sym is) (omega (arith, m))

pub at_most_found : (k1 k2 : List (Option ℕ)) (r : Bool) (R : Type 0) → r ≡ true → MatchBool r (found k2 ≡ found k1 + 1) R → found k1 ≤ found k2
at_most_found k1 k2 r R e b = let m = MatchBool-at_true (found k2 ≡ found k1 + 1) R e b in omega (arith, m)

module _ (fs : List p.Function) (k0 k1 k2 : List (Option ℕ)) where
  pub same_known : (n : ℕ) (r : Bool) → r ≡ false → MatchBool r (found k2 ≡ found k1 + 1) ((k2 ≡ k1) × (IsUnknown k1 n → CallsUnknown fs k1 n)) →
      (k2 ≡ k1) × (IsUnknown k1 n → CallsUnknown fs k1 n)
  same_known n r e b = MatchBool-at_false (found k2 ≡ found k1 + 1) ((k2 ≡ k1) × (IsUnknown k1 n → CallsUnknown fs k1 n)) e b

  at_next : (n : ℕ) (f : Bool) → MatchBool f (found k0 < found k1) ((g : ℕ) → g < n → IsUnknown k1 g → CallsUnknown fs k1 g) →
      (IsUnknown k1 n → CallsUnknown fs k1 n) →
      MatchBool f (found k0 < found k1) ((g : ℕ) → g < n + 1 → IsUnknown k1 g → CallsUnknown fs k1 g)
  at_next n true a h = a
  at_next n false a h = λ g l u. ⊎_elim (λ lt. a g lt u)
      (λ ge. let e : n ≡ g = omega arith in subst (λ (x : ℕ). CallsUnknown fs k1 x) e (h (subst (λ (x : ℕ). IsUnknown k1 x) (sym e) u)))
      (cases_lt g n)

  pub after_same : (n : ℕ) (f1 f2 r : Bool) → MatchBool f1 (found k0 < found k1) ((g : ℕ) → g < n → IsUnknown k1 g → CallsUnknown fs k1 g) →
      r ≡ false → MatchBool r (found k2 ≡ found k1 + 1) ((k2 ≡ k1) × (IsUnknown k1 n → CallsUnknown fs k1 n)) → f2 ≡ f1 →
      MatchBool f2 (found k0 < found k2) ((g : ℕ) → g < n + 1 → IsUnknown k2 g → CallsUnknown fs k2 g)
  after_same n f1 f2 r a e b is =
      let m = same_known n r e b in
      subst (λ (k : List (Option ℕ)). MatchBool f2 (found k0 < found k) ((g : ℕ) → g < n + 1 → IsUnknown k g → CallsUnknown fs k g)) (sym m.0)
      (subst (λ (f : Bool). MatchBool f (found k0 < found k1) ((g : ℕ) → g < n + 1 → IsUnknown k1 g → CallsUnknown fs k1 g)) (sym is) (at_next n f1 a m.1))

  pub closed_all : (n : ℕ) (f : Bool) → length k1 ≤ n → MatchBool f (found k0 < found k1) ((g : ℕ) → g < n → IsUnknown k1 g → CallsUnknown fs k1 g) →
      MatchBool f (found k0 < found k1) (IsClosed fs k1)
  closed_all n true le a = a
  closed_all n false le a = λ g u. a g (omega (arith, slice_get_within k1 g None u)) u
