-- Numbers of locals of which each reference is right: one that leads nowhere, or is null where it is known not to be, is given the first element.
use Rattle.std.proofs.Common.{◌≡◌, ◌≢◌, inl, inr, refl, ℕ, zero, suc, ◌+◌, ◌<◌, ◌≤◌, List, [], ◌∷◌, ap, sym, ◌∙◌, subst, arith, Option, Some, None}
use Rattle.std.proofs.Common.{Bool, true, false, not}
use Rattle.std.specs.Prelude.{slice_get, slice_index_or, nat_lt, ℤ, pos, negsuc, if◌then◌else◌, unsigned_abs}
use Rattle.std.specs.List.{AllByRecursion, AllZip}
use Rattle.std.proofs.lemmas.Bool.{cases_Bool, cond-true, cond-false, true≢false}
use Rattle.std.proofs.lemmas.Bool.Decides.{nat_tests}
use Rattle.std.proofs.lemmas.Int.{ints}
use Rattle.std.proofs.lemmas.Option.{none-some, same_Some}
use Rattle.ido_base.specs.declared.limits.TheConstants.{MOST_ELEMENTS}
use Rattle.ido_ints.specs.declared.kinds.Kind.{Kind}
use Rattle.ido_ints.specs.declared.kinds.Kind.TheVariants.{UnsignedLong}
use Rattle.ido_ints.specs.Kinds.{Holds}
use Rattle.ido_ints.proofs.Public.{Holds-zero}
use Rattle.c_tree.specs.Programs.{Mutex, Variable}
use Rattle.c_tree.specs.NullReferences.{is_among}
use Rattle.c_tree.specs.Ranges.{elements_of}
use Rattle.c_tree.specs.References.{IsLocalReferring, IsReferred, RefersRight}
use Rattle.c_tree.specs.WellFormed.{IsVariable}
use Rattle.c_ranges.specs.Laws.{IsNullOrReference}
use Rattle.c_ranges.specs.RunInvariants.{RefersSo}
use Rattle.c_ranges.proofs.Public.{elements_is}
use Rattle.flow_graph.proofs.Public.{all_at}

-- ---- A number

-- whether it is null, where that may be, or leads to one of so many elements
abbrev is_right : (elements : ℕ) (known : Bool) → ℤ → Bool
is_right elements known (pos zero) = not known
is_right elements known (pos (suc n)) = nat_lt n elements
is_right elements known (negsuc n) = false

below : (n m : ℕ) → nat_lt n m ≡ true → n < m
below n m h = grind (arith, nat_tests, h)

below_back : (n m : ℕ) → n < m → nat_lt n m ≡ true
below_back n m h = grind (arith, nat_tests, h)

is_reference : (elements : ℕ) (known : Bool) (z : ℤ) → elements ≤ MOST_ELEMENTS → is_right elements known z ≡ true → IsNullOrReference elements z
is_reference elements known (pos zero) most h =
    record { held = Holds-zero UnsignedLong; names = record { from_low = omega (arith, ints); to_high = omega (arith, ints) } }
is_reference elements known (pos (suc n)) most h =
    let b = below n elements h in
    record {
      held = record { from_least = omega (arith, ints); to_greatest = omega (arith, ints, b, most) };
      names = record { from_low = omega (arith, ints); to_high = omega (arith, ints, b) };
    }
is_reference elements known (negsuc n) most h = absurd (true≢false (sym h))

right_some : (elements : ℕ) (z : ℤ) → is_right elements true z ≡ true → z ≢ pos 0
right_some elements (pos zero) h zeroth = true≢false (sym h)
right_some elements (pos (suc n)) h zeroth = let e : suc n ≡ 0 = ap unsigned_abs zeroth in omega (arith, e)
right_some elements (negsuc n) h zeroth = true≢false (sym h)

right_back : (elements : ℕ) (known : Bool) (z : ℤ) → IsNullOrReference elements z → (known ≡ true → z ≢ pos 0) → is_right elements known z ≡ true
right_back elements true (pos zero) r some = absurd (some refl refl)
right_back elements false (pos zero) r some = refl
right_back elements known (pos (suc n)) r some =
    let high = r.names.to_high in
    below_back n elements (omega (arith, ints, high))
right_back elements known (negsuc n) r some = let low = r.names.from_low in absurd (omega (arith, ints, low))

-- ---- A local

abbrev mended_number : List Variable → (refers : Option ℕ) (known : Bool) → ℤ → ℤ
mended_number vs None known z = z
mended_number vs (Some array) known z = if is_right (elements_of vs array) known z then z else pos 1

first_held : Holds UnsignedLong (pos 1)
first_held = record { from_least = omega (arith, ints); to_greatest = omega (arith, ints) }

number_held : (vs : List Variable) (k : Kind) (refers : Option ℕ) (known : Bool) (z : ℤ) → IsLocalReferring k refers → Holds k z →
    Holds k (mended_number vs refers known z)
number_held vs k None known z is held = held
number_held vs k (Some array) known z is held = elim (cases_Bool (is_right (elements_of vs array) known z)) [
  | inl right ↦ subst (Holds k) (sym (cond-true (is_right (elements_of vs array) known z) z (pos 1) right)) held
  | inr wrong ↦
      subst (Holds k) (sym (cond-false (is_right (elements_of vs array) known z) z (pos 1) wrong)) (subst (λ (j : Kind). Holds j (pos 1)) (sym is) first_held)
]

-- one that is known isn't null
number_some : (vs : List Variable) (array : ℕ) (known : Bool) (z : ℤ) → known ≡ true → mended_number vs (Some array) known z ≢ pos 0
number_some vs array false z is = absurd (true≢false (sym is))
number_some vs array true z is = elim (cases_Bool (is_right (elements_of vs array) true z)) [
  | inl right ↦ λ zeroth. right_some (elements_of vs array) z right (sym (cond-true (is_right (elements_of vs array) true z) z (pos 1) right) ∙ zeroth)
  | inr wrong ↦ λ zeroth. one_some (sym (cond-false (is_right (elements_of vs array) true z) z (pos 1) wrong) ∙ zeroth)
]
  where
    one_some : pos 1 ≡ pos 0 → ⊥
    one_some e = let zeroth : 1 ≡ 0 = ap unsigned_abs e in omega (arith, zeroth)

-- one that is right stays
number_stays : (vs : List Variable) (refers : Option ℕ) (known : Bool) (z : ℤ) → RefersSo vs refers z →
    ((array : ℕ) → refers ≡ Some array → known ≡ true → z ≢ pos 0) → mended_number vs refers known z ≡ z
number_stays vs None known z refer some = refl
number_stays vs (Some array) known z refer some =
    cond-true (is_right (elements_of vs array) known z) z (pos 1) (right_back (elements_of vs array) known z refer (some array refl))

module _ (ms : List Mutex) (vs : List Variable) (formed : AllByRecursion (IsVariable ms) vs) where
  -- an array has elements, and no more than it may
  record IsSized (array : ℕ) : Type 0 where
    some : 0 < elements_of vs array
    most : elements_of vs array ≤ MOST_ELEMENTS

  sized : (array : ℕ) → IsReferred vs array → IsSized array
  sized array r =
      let is = elements_is vs array r.it r.found r.array in
      let v = all_at (IsVariable ms) vs array r.it formed r.found in
      record { some = (let l = v.not_empty in omega (arith, is, l)); most = (let l = v.not_too_long in omega (arith, is, l)) }

  first_refers : (array : ℕ) → 0 < elements_of vs array → IsNullOrReference (elements_of vs array) (pos 1)
  first_refers array some = record { held = first_held; names = record { from_low = omega (arith, ints); to_high = omega (arith, ints, some) } }

  number_refers : (refers : Option ℕ) (known : Bool) (z : ℤ) → RefersRight vs refers → RefersSo vs refers (mended_number vs refers known z)
  number_refers None known z right = tt
  number_refers (Some array) known z right =
      let n = elements_of vs array in
      let s = sized array right in
      elim (cases_Bool (is_right n known z)) [
        | inl is ↦ subst (IsNullOrReference n) (sym (cond-true (is_right n known z) z (pos 1) is)) (is_reference n known z s.most is)
        | inr other ↦ subst (IsNullOrReference n) (sym (cond-false (is_right n known z) z (pos 1) other)) (first_refers array s.some)
      ]

-- ---- All locals

-- from the one of that number on
abbrev pub mended_from : List Variable → (known : List ℕ) → List (Option ℕ) → (at : ℕ) → List ℤ → List ℤ
mended_from vs known [] at ls = []
mended_from vs known (r ∷ rs) at [] = []
mended_from vs known (r ∷ rs) at (z ∷ ls) = mended_number vs r (is_among known at) z ∷ mended_from vs known rs (at + 1) ls

module _ (vs : List Variable) (known : List ℕ) where
  pub mended_hold : (ks : List Kind) (rs : List (Option ℕ)) (at : ℕ) (ls : List ℤ) → AllZip IsLocalReferring ks rs → AllZip Holds ks ls →
      AllZip Holds ks (mended_from vs known rs at ls)
  mended_hold [] [] at ls h k = tt
  mended_hold [] (r ∷ rs) at ls h k = absurd h
  mended_hold (j ∷ ks) [] at ls h k = absurd h
  mended_hold (j ∷ ks) (r ∷ rs) at [] h k = absurd k
  mended_hold (j ∷ ks) (r ∷ rs) at (z ∷ ls) h k = (number_held vs j r (is_among known at) z h.0 k.0, mended_hold ks rs (at + 1) ls h.1 k.1)

  pub mended_refer : (ms : List Mutex) → AllByRecursion (IsVariable ms) vs → (ks : List Kind) (rs : List (Option ℕ)) (at : ℕ) (ls : List ℤ) →
      AllByRecursion (RefersRight vs) rs → AllZip IsLocalReferring ks rs → AllZip Holds ks ls → AllZip (RefersSo vs) rs (mended_from vs known rs at ls)
  mended_refer ms formed [] [] at ls right h k = tt
  mended_refer ms formed [] (r ∷ rs) at ls right h k = absurd h
  mended_refer ms formed (j ∷ ks) [] at ls right h k = absurd h
  mended_refer ms formed (j ∷ ks) (r ∷ rs) at [] right h k = absurd k
  mended_refer ms formed (j ∷ ks) (r ∷ rs) at (z ∷ ls) right h k =
      (number_refers ms vs formed r (is_among known at) z right.0, mended_refer ms formed ks rs (at + 1) ls right.1 h.1 k.1)

  -- the number of each
  mended_at : (ks : List Kind) (rs : List (Option ℕ)) (at : ℕ) (ls : List ℤ) (i : ℕ) (r : Option ℕ) → AllZip IsLocalReferring ks rs → AllZip Holds ks ls →
      slice_get rs i ≡ Some r → slice_index_or (mended_from vs known rs at ls) i (pos 0)
      ≡ mended_number vs r (is_among known (at + i)) (slice_index_or ls i (pos 0))
  mended_at [] [] at ls i r h k e = absurd (none-some r e)
  mended_at [] (s ∷ rs) at ls i r h k e = absurd h
  mended_at (j ∷ ks) [] at ls i r h k e = absurd h
  mended_at (j ∷ ks) (s ∷ rs) at [] i r h k e = absurd k
  mended_at (j ∷ ks) (s ∷ rs) at (z ∷ ls) zero r h k e =
      let same : at ≡ at + 0 = omega arith in
      ap (λ (o : Option ℕ). mended_number vs o (is_among known at) z) (same_Some s r e) ∙ ap (λ (n : ℕ). mended_number vs r (is_among known n) z) same
  mended_at (j ∷ ks) (s ∷ rs) at (z ∷ ls) (suc i) r h k e =
      let same : at + 1 + i ≡ at + suc i = omega arith in
      mended_at ks rs (at + 1) ls i r h.1 k.1 e ∙ ap (λ (n : ℕ). mended_number vs r (is_among known n) (slice_index_or ls i (pos 0))) same

  -- past the last one both lists have 0
  mended_past : (ks : List Kind) (rs : List (Option ℕ)) (at : ℕ) (ls : List ℤ) (i : ℕ) → AllZip IsLocalReferring ks rs → AllZip Holds ks ls →
      slice_get rs i ≡ None → slice_index_or (mended_from vs known rs at ls) i (pos 0) ≡ slice_index_or ls i (pos 0)
  mended_past [] [] at [] i h k e = refl
  mended_past [] [] at (z ∷ ls) i h k e = absurd k
  mended_past [] (s ∷ rs) at ls i h k e = absurd h
  mended_past (j ∷ ks) [] at ls i h k e = absurd h
  mended_past (j ∷ ks) (s ∷ rs) at [] i h k e = absurd k
  mended_past (j ∷ ks) (s ∷ rs) at (z ∷ ls) zero h k e = absurd (none-some s (sym e))
  mended_past (j ∷ ks) (s ∷ rs) at (z ∷ ls) (suc i) h k e = mended_past ks rs (at + 1) ls i h.1 k.1 e

-- of a thread's locals
module _ (vs : List Variable) (known : List ℕ) (ks : List Kind) (rs : List (Option ℕ)) (ls : List ℤ) (own : AllZip IsLocalReferring ks rs)
    (held : AllZip Holds ks ls) where
  at_local : (local : ℕ) (r : Option ℕ) → slice_get rs local ≡ Some r →
      slice_index_or (mended_from vs known rs 0 ls) local (pos 0) ≡ mended_number vs r (is_among known local) (slice_index_or ls local (pos 0))
  at_local local r there =
      let same : 0 + local ≡ local = omega arith in
      mended_at vs known ks rs 0 ls local r own held there
      ∙ ap (λ (n : ℕ). mended_number vs r (is_among known n) (slice_index_or ls local (pos 0))) same

  pub mended_unnull : (local array : ℕ) → slice_get rs local ≡ Some (Some array) → is_among known local ≡ true →
      slice_index_or (mended_from vs known rs 0 ls) local (pos 0) ≢ pos 0
  mended_unnull local array there among zeroth =
      number_some vs array (is_among known local) (slice_index_or ls local (pos 0)) among (sym (at_local local (Some array) there) ∙ zeroth)

  -- one that is right stays
  pub mended_stays : (local : ℕ) (r : Option ℕ) → slice_get rs local ≡ Some r → RefersSo vs r (slice_index_or ls local (pos 0)) →
      ((array : ℕ) → r ≡ Some array → is_among known local ≡ true → slice_index_or ls local (pos 0) ≢ pos 0) →
      slice_index_or (mended_from vs known rs 0 ls) local (pos 0) ≡ slice_index_or ls local (pos 0)
  mended_stays local r there refer some =
      at_local local r there ∙ number_stays vs r (is_among known local) (slice_index_or ls local (pos 0)) refer some

  pub mended_none : (local : ℕ) → slice_get rs local ≡ None →
      slice_index_or (mended_from vs known rs 0 ls) local (pos 0) ≡ slice_index_or ls local (pos 0)
  mended_none local none = mended_past vs known ks rs 0 ls local own held none
