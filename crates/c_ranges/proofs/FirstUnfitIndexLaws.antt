-- The first fault of a list of indexes is what it is to be.
use Rattle.std.proofs.Common.{◌≡◌, refl, sym, ◌∙◌, ap, subst, ◌≤◌, List, [], ◌∷◌, Option, Some, None, Bool, true, false, cond, ⊎_elim, inl, inr, arith}
use Rattle.std.specs.Prelude.{◌⊎◌, Contains}
use Rattle.std.proofs.lemmas.Bool.{cases_lt, false≢true}
use Rattle.std.proofs.lemmas.List.Elements.{Contains-append_cases, Contains-append_right, Contains-push_cases}
use Rattle.ido_base.specs.declared.place.Place.{Place}
use Rattle.c_tree.specs.Programs as p
use Rattle.c_tree.specs.Ranges.{Index, index_fits, program_indexes, AllFit}
use Rattle.c_ranges.specs.Bounds.{interval_of}
use Rattle.c_ranges.specs.Faults.{TellsOfIndex}
use Rattle.c_ranges.specs.links.FirstUnfitIndex.{error_at, elements_for, earlier, first_fault}
use Rattle.c_ranges.specs.declared.indexes.IndexError.{IndexError}
use Rattle.c_ranges.proofs.Faults.{earlier_first, earlier_second}

pub none_in : {X : Type 0} (x : X) → Contains [] x → ⊥
none_in x h = omega (arith, h.1)

one_in : {X : Type 0} (x y : X) → Contains (x ∷ []) y → x ≡ y
one_in x y h = ⊎_elim (λ e. absurd (none_in y e)) (λ e. e) (Contains-push_cases [] x y h)

first_or_rest : {X : Type 0} (x : X) (rest : List X) (y : X) → Contains (x ∷ rest) y → (x ≡ y) ⊎ Contains rest y
first_or_rest x rest y h = ⊎_elim (λ e. inl (one_in x y e)) (λ e. inr e) (Contains-append_cases (x ∷ []) rest y h)

in_rest : {X : Type 0} (x : X) (rest : List X) (y : X) → Contains rest y → Contains (x ∷ rest) y
in_rest x rest y h = Contains-append_right (x ∷ []) rest y h

is_first : {X : Type 0} (x : X) (rest : List X) → Contains (x ∷ rest) x
is_first x rest = (0, omega arith, refl)

-- ---- What a list's answer says, whatever the test is and the error that is made of an index

pub contrary : {A : Type 0} (b : Bool) → b ≡ true → b ≡ false → A
contrary b h k = absurd (false≢true (sym k ∙ h))

place_same : (i j : Index) → i ≡ j → i.place.0 ≡ j.place.0
place_same i j e = ap (λ (i : Index). i.place.0) e

module _ (fits : Index → Bool) (error : Index → IndexError) (at : (i : Index) → (error i).place.0 ≡ i.place.0) where
  abbrev AllFitIn : List Index → Type 0
  AllFitIn xs = (i : Index) → Contains xs i → fits i ≡ true

  record FirstIn (xs : List Index) (e : IndexError) : Type 0 where
    index : Index
    found : Contains xs index
    unfit : fits index ≡ false
    first : (j : Index) → Contains xs j → fits j ≡ false → index.place.0 ≤ j.place.0
    is : e ≡ error index

  abbrev FindsFirst : List Index → Option IndexError → Type 0
  FindsFirst xs None = AllFitIn xs
  FindsFirst xs (Some e) = FirstIn xs e

  place_of : (i : Index) (e : IndexError) → e ≡ error i → e.place.0 ≡ i.place.0
  place_of i e h = ap (λ (e : IndexError). e.place.0) h ∙ at i

  fits_before : (x : Index) (rest : List Index) (r : Option IndexError) → fits x ≡ true → FindsFirst rest r → FindsFirst (x ∷ rest) r
  fits_before x rest None h t = λ i c. ⊎_elim (λ e. ap fits (sym e) ∙ h) (λ c. t i c) (first_or_rest x rest i c)
  fits_before x rest (Some e) h t = record {
    index = t.index;
    found = in_rest x rest t.index t.found;
    unfit = t.unfit;
    first = λ j c u. ⊎_elim (λ same. contrary (fits j) (ap fits (sym same) ∙ h) u) (λ c. t.first j c u) (first_or_rest x rest j c);
    is = t.is;
  }

  unfit_before : (x : Index) (rest : List Index) (r : Option IndexError) → fits x ≡ false → FindsFirst rest r →
      FindsFirst (x ∷ rest) (earlier (Some (error x)) r)
  unfit_before x rest None unfit t = record {
    index = x;
    found = is_first x rest;
    unfit = unfit;
    first = λ j c u. ⊎_elim (λ same. omega (arith, place_same x j same)) (λ c. contrary (fits j) (t j c) u) (first_or_rest x rest j c);
    is = refl;
  }
  unfit_before x rest (Some e) unfit t =
      let there = place_of t.index e t.is in
      let here = at x in
      ⊎_elim
      (λ h. subst (FindsFirst (x ∷ rest)) (sym (earlier_second (error x) e h)) (record {
        index = t.index;
        found = in_rest x rest t.index t.found;
        unfit = t.unfit;
        first = λ j c u. ⊎_elim (λ same. omega (arith, h, here, there, place_same x j same)) (λ c. t.first j c u) (first_or_rest x rest j c);
        is = t.is;
      }))
      (λ h. subst (FindsFirst (x ∷ rest)) (sym (earlier_first (error x) e h)) (record {
        index = x;
        found = is_first x rest;
        unfit = unfit;
        first = λ j c u. ⊎_elim (λ same. omega (arith, place_same x j same)) (λ c. omega (arith, h, here, there, t.first j c u)) (first_or_rest x rest j c);
        is = refl;
      }))
      (cases_lt e.place.0 (error x).place.0)

  one_before : (x : Index) (rest : List Index) (r : Option IndexError) → FindsFirst rest r →
      FindsFirst (x ∷ rest) (earlier (cond (fits x) None (Some (error x))) r)
  one_before x rest r t =
      let by : (b : Bool) → fits x ≡ b → FindsFirst (x ∷ rest) (earlier (cond b None (Some (error x))) r) =
      λ b. elim b as (λ b. fits x ≡ b → FindsFirst (x ∷ rest) (earlier (cond b None (Some (error x))) r)) [
        | true ↦ λ e. fits_before x rest r e t
        | false ↦ λ e. unfit_before x rest r e t
      ] in
      by (fits x) refl

abbrev fits_in : p.Program → Index → Bool
fits_in z = index_fits z.variables z.mutexes

abbrev error_of : p.Program → Index → IndexError
error_of z i = error_at (elements_for z i) i.place i.expr

abbrev FindsFirstOf : p.Program → List Index → Option IndexError → Type 0
FindsFirstOf z = FindsFirst (fits_in z) (error_of z) (λ i. refl)

tells : (z : p.Program) (xs : List Index) → FindsFirstOf z xs (first_fault z xs)
unfolding first_fault
tells z [] = λ i c. absurd (none_in i c)
tells z (x ∷ rest) = one_before (fits_in z) (error_of z) (λ i. refl) x rest (first_fault z rest) (tells z rest)

-- ---- Of a program

pub all_fit : (x : p.Program) → first_fault x (program_indexes x) ≡ None → AllFit x
all_fit x e = subst (FindsFirstOf x (program_indexes x)) e (tells x (program_indexes x))

-- what the error tells, and that no index before it doesn't fit
pub record FirstUnfit (x : p.Program) (e : IndexError) : Type 0 where
  pub tells : TellsOfIndex x e
  pub first : (j : Index) → Contains (program_indexes x) j → index_fits x.variables x.mutexes j ≡ false → e.place.0 ≤ j.place.0

pub first_unfit : (x : p.Program) (e : IndexError) → first_fault x (program_indexes x) ≡ Some e → FirstUnfit x e
first_unfit x e h =
    let f : FirstIn (fits_in x) (error_of x) (λ i. refl) (program_indexes x) e = subst (FindsFirstOf x (program_indexes x)) h (tells x (program_indexes x)) in
    let there : e.place ≡ f.index.place = ap (λ (e : IndexError). e.place) f.is in
    let told : TellsOfIndex x e = record {
      index = f.index;
      found = f.found;
      unfit = f.unfit;
      place = there;
      range = ap (λ (e : IndexError). interval_of e.range) f.is;
      length = ap (λ (e : IndexError). e.length) f.is;
    } in
    record { tells = told; first = λ j c u. omega (arith, ap (λ (q : Place). q.0) there, f.first j c u) }
