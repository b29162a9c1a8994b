-- A function's weight becomes known.
use Rattle.std.proofs.Common.{◌≡◌, ℕ, zero, suc, ◌+◌, ◌-◌, ◌^◌, ◌<◌, ◌≤◌, List, [], ◌∷◌, length, get_or, set}
use Rattle.std.proofs.Common.{min, false, cond, Option, Some, None, refl, sym, ap, ◌∙◌, subst, arith, ⊎_elim}
use Rattle.std.specs.Prelude.{Contains, slice_get, is_some}
use Rattle.std.proofs.lemmas.Bool.{cases_lt, cases_eq, false≢true}
use Rattle.std.proofs.lemmas.List.{length-set}
use Rattle.std.proofs.lemmas.List.Sums.{count_by-le-length, sum_by-set}
use Rattle.std.proofs.lemmas.Option.{slice_get_past, slice_get_within, get_or_from_slice_get, slice_get_read}
use Rattle.c_tree.specs.Programs as p
use Rattle.c_tree.specs.Inlining as i
use Rattle.c_inline.specs.declared.weight.Weights.{Weights}
use Rattle.c_inline.specs.links.Weights as v
use Rattle.c_inline.specs.links.KnownWeights.{Low, AreRight, IsUnknown, found}
use Rattle.c_inline.proofs.CallCongruence.{near_statements}
use Rattle.c_inline.proofs.WeightsByDepth.{low_more, calls_of_some, weight_past, fixed_weight}

pub get_set_same : {A : Type 0} (xs : List A) (g : ℕ) (y : A) → g < length xs → slice_get (set xs g y) g ≡ Some y
get_set_same [] g y l = absurd (omega arith)
get_set_same (x ∷ xs) zero y l = refl
get_set_same (x ∷ xs) (suc g) y l = get_set_same xs g y (omega arith)

pub get_set_other : {A : Type 0} (xs : List A) (g h : ℕ) (y : A) → (h ≡ g → ⊥) → slice_get (set xs g y) h ≡ slice_get xs h
get_set_other [] g h y ne = refl
get_set_other (x ∷ xs) zero zero y ne = absurd (ne refl)
get_set_other (x ∷ xs) zero (suc h) y ne = refl
get_set_other (x ∷ xs) (suc g) zero y ne = refl
get_set_other (x ∷ xs) (suc g) (suc h) y ne = get_set_other xs g h y (λ e. ne (ap suc e))

found_set : (known : List (Option ℕ)) (g weight : ℕ) → IsUnknown known g → found (set known g (Some weight)) ≡ found known + 1
found_set known g weight e =
    let one : Option ℕ → ℕ = λ x. cond (is_some x) 1 0 in
    let a = sum_by-set one known g (Some weight) None (slice_get_within known g None e) in
    let b : one (get_or known g None) ≡ 0 = ap one (get_or_from_slice_get known g None None e) in
    omega (arith, a, b)

pub known_cases : (known : List (Option ℕ)) (g : ℕ) → g < length known → (IsUnknown known g → ⊥) → (weight : ℕ) × (slice_get known g ≡ Some (Some weight))
known_cases [] g l unknown = absurd (omega arith)
known_cases (Some y ∷ known) zero l unknown = (y, refl)
known_cases (None ∷ known) zero l unknown = absurd (unknown refl)
known_cases (x ∷ known) (suc g) l unknown = known_cases known g (omega arith) unknown

none_from : (x : Option ℕ) → is_some x ≡ false → x ≡ None
none_from None e = refl
none_from (Some y) e = absurd (false≢true (sym e))

pub unknown_from : (known : List (Option ℕ)) (g : ℕ) (x : Option ℕ) → g < length known → x ≡ get_or known g x → is_some x ≡ false → IsUnknown known g
unknown_from known g x l is e = slice_get_read known (length known) g x refl l is ∙ ap Some (none_from x e)

pub known_weight_some : (known : List (Option ℕ)) (g weight : ℕ) → slice_get known g ≡ Some (Some weight) → v.known_weight known g ≡ weight
known_weight_some known g weight e = ap (λ (o : Option (Option ℕ)). elim o as (λ _. ℕ) [ Some x ↦ elim x as (λ _. ℕ) [ Some y ↦ y | None ↦ 0 ] | None ↦ 0 ]) e

pub known_weight_past : (known : List (Option ℕ)) (g : ℕ) → length known ≤ g → v.known_weight known g ≡ 0
known_weight_past known g le =
    ap (λ (o : Option (Option ℕ)). elim o as (λ _. ℕ) [ Some x ↦ elim x as (λ _. ℕ) [ Some y ↦ y | None ↦ 0 ] | None ↦ 0 ]) (slice_get_past known g le)

module _ (w : Weights) (fs : List p.Function) (known : List (Option ℕ)) (is_right : AreRight w fs known) where
  -- what is known of a function is what it weighs
  pub near_known : (g : ℕ) → (IsUnknown known g → ⊥) → min (v.known_weight known g) (2 ^ 64 - 1) ≡ min (v.function_weight w 0 fs (length fs) g) (2 ^ 64 - 1)
  near_known g unknown =
      ⊎_elim
      (λ l. let r = known_cases known g l unknown in
      let a = known_weight_some known g r.0 r.1 in
      let b = is_right.right g r.0 r.1 in
      omega (arith, a, b))
      (λ le. let a = known_weight_past known g le in
      let b = weight_past fs w 0 (length fs) g (omega (arith, is_right.covers)) in
      omega (arith, a, b))
      (cases_lt g (length known))

  pub found_most : found known ≤ length fs
  found_most = omega (arith, count_by-le-length (is_some {T = ℕ}) known, is_right.covers)

  pub found_below : (g : ℕ) (weight : ℕ) → IsUnknown known g → found known + 1 ≤ length fs
  found_below g weight e =
      let a = found_set known g weight e in
      let b = count_by-le-length (is_some {T = ℕ}) (set known g (Some weight)) in
      let c = length-set known g (Some weight) in
      omega (arith, a, b, c, is_right.covers)

  module _ (g : ℕ) (x : p.Function) (weight : ℕ)
      (exists : slice_get fs g ≡ Some x) (unknown : IsUnknown known g)
      (ready : (c : i.Call) → Contains (i.calls_in fs g) c → IsUnknown known c.function → ⊥)
      (weighs : weight ≡ min (v.statements_weight w 0 fs (v.known_weight known) x.body) (2 ^ 64 - 1)) where
    low_now : Low fs (suc (found known)) g
    low_now c k l =
        let r = known_cases known c.function (omega (arith, is_right.covers)) (ready c k) in
        is_right.low c.function r.0 r.1

    right_now : weight ≡ min (v.function_weight w 0 fs (length fs) g) (2 ^ 64 - 1)
    right_now =
        let a = near_statements w 0 fs (v.known_weight known) (v.function_weight w 0 fs (length fs)) (2 ^ 64 - 1) x.body
        (λ c k. near_known c.function (ready c (subst (λ xs. Contains xs c) (sym (calls_of_some fs g x exists)) k))) in
        let b = fixed_weight fs w 0 (suc (found known)) g x (omega (arith, found_below g weight unknown)) low_now exists in
        omega (arith, weighs, a, b)

    pub found_now : found (set known g (Some weight)) ≡ found known + 1
    found_now = found_set known g weight unknown

    pub are_right_now : AreRight w fs (set known g (Some weight))
    are_right_now = record {
      covers = length-set known g (Some weight) ∙ is_right.covers;
      low = λ h y e. ⊎_elim
          (λ same. low_more fs (suc (found known)) (found (set known g (Some weight))) h (omega (arith, found_now))
          (subst (λ j. Low fs (suc (found known)) j) (sym same) low_now))
          (λ other. low_more fs (found known) (found (set known g (Some weight))) h (omega (arith, found_now))
          (is_right.low h y (sym (get_set_other known g h (Some weight) other) ∙ e)))
          (cases_eq h g);
      right = λ h y e. ⊎_elim
          (λ same. let k : slice_get (set known g (Some weight)) h ≡ Some (Some weight) =
          ap (slice_get (set known g (Some weight))) same ∙ get_set_same known g (Some weight) (slice_get_within known g None unknown) in
          let f : y ≡ weight = cc (e, k) in
          f ∙ right_now ∙ ap (λ j. min (v.function_weight w 0 fs (length fs) j) (2 ^ 64 - 1)) (sym same))
          (λ other. is_right.right h y (sym (get_set_other known g h (Some weight) other) ∙ e))
          (cases_eq h g);
    }
