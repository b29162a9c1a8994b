-- The fault that is told is the first by place, and of both at one place that of the index.
use Rattle.std.proofs.Common.{◌≡◌, refl, sym, ◌∙◌, ap, subst, ℕ, ◌+◌, ◌<◌, ◌≤◌, List, [], ◌∷◌, ◌++◌, length, take, get_or}
use Rattle.std.proofs.Common.{Option, Some, None, true, false, cond, leb, ⊎_elim, arith, IsErrAnd}
use Rattle.std.specs.Prelude.{Contains, MatchResult, Result, Ok, Err}
use Rattle.std.proofs.lemmas.Bool.{cases_lt}
use Rattle.std.proofs.lemmas.List.{take_more}
use Rattle.std.proofs.lemmas.List.Elements.{Contains-append_left, Contains-push, Contains-push_cases}
use Rattle.ido_base.specs.declared.place.Place.{Place}
use Rattle.c_tree.specs.declared.rule.Rule as r
use Rattle.c_tree.specs.declared.rule.Rule.TheVariants as rule
use Rattle.c_tree.specs.NullReferences.{IsFirstOutside, IsOutside, by_index, by_null, program_nulls}
use Rattle.c_tree.specs.Programs as p
use Rattle.c_tree.specs.Ranges.{AllFit, Index, index_fits, program_indexes}
use Rattle.c_ranges.specs.Faults.{IsFaultOf}
use Rattle.c_ranges.specs.links.FirstNull.{IsLeastOf, lesser_place, told}
use Rattle.c_ranges.specs.links.FirstUnfitIndex.{first_fault}
use Rattle.c_ranges.specs.declared.checking.RangeError.{RangeError}
use Rattle.c_ranges.specs.declared.checking.RangeError.TheVariants as error
use Rattle.c_ranges.specs.declared.indexes.IndexError.{IndexError}
use Rattle.c_ranges.proofs.FirstUnfitIndexLaws.{FirstUnfit, all_fit, contrary, first_unfit, none_in}

number_same : (a b : Place) → a ≡ b → a.0 ≡ b.0
number_same a b e = ap (λ (q : Place). q.0) e

-- ---- The least place

lesser_first : (a b : Place) → a.0 ≤ b.0 → lesser_place (Some a) b ≡ Some a
lesser_first a b h = let e : leb a.0 b.0 ≡ true = grind (arith) in ap (λ t. cond t (Some a) (Some b)) e

lesser_second : (a b : Place) → b.0 < a.0 → lesser_place (Some a) b ≡ Some b
lesser_second a b h = let e : leb a.0 b.0 ≡ false = grind (arith) in ap (λ t. cond t (Some a) (Some b)) e

one_more_place : (places : List Place) (o : Option Place) (x : Place) → IsLeastOf places o → IsLeastOf (places ++ x ∷ []) (lesser_place o x)
one_more_place places None x none =
    let least : (b : Place) → Contains (places ++ x ∷ []) b → x.0 ≤ b.0 =
    λ b c. ⊎_elim (λ k. absurd (none_in b (subst (λ (ps : List Place). Contains ps b) none k))) (λ e. omega (arith, number_same x b e))
    (Contains-push_cases places x b c) in
    (Contains-push places x, least)
one_more_place places (Some a) x t = ⊎_elim
    (λ h. (let least : (b : Place) → Contains (places ++ x ∷ []) b → x.0 ≤ b.0 =
    λ b c. ⊎_elim (λ k. omega (arith, h, t.1 b k)) (λ e. omega (arith, number_same x b e)) (Contains-push_cases places x b c) in
    subst (IsLeastOf (places ++ x ∷ [])) (sym (lesser_second a x h)) (Contains-push places x, least)))
    (λ h. (let least : (b : Place) → Contains (places ++ x ∷ []) b → a.0 ≤ b.0 =
    λ b c. ⊎_elim (λ k. t.1 b k) (λ e. omega (arith, h, number_same x b e)) (Contains-push_cases places x b c) in
    subst (IsLeastOf (places ++ x ∷ [])) (sym (lesser_first a x h)) (Contains-append_left places (x ∷ []) a t.0, least)))
    (cases_lt x.0 a.0)

pub next_least : (places : List Place) (i : ℕ) (x : Place) (o new : Option Place) → i < length places → x ≡ get_or places i x → new ≡ lesser_place o x →
    IsLeastOf (take i places) o → IsLeastOf (take (i + 1) places) new
next_least places i x o new low is e t =
    let taken : take (i + 1) places ≡ take i places ++ x ∷ [] = take_more places i x low ∙ ap (λ (y : Place). take i places ++ y ∷ []) (sym is) in
    subst (λ (ps : List Place). IsLeastOf ps new) (sym taken)
    (subst (IsLeastOf (take i places ++ x ∷ [])) (sym e) (one_more_place (take i places) o x t))

-- ---- Which of two is told

told_index : (unfit : IndexError) (place : Place) → unfit.place.0 ≤ place.0 → told (Some unfit) (Some place) ≡ Some (error.Index unfit)
told_index unfit place h =
    let e : leb unfit.place.0 place.0 ≡ true = grind (arith) in ap (λ t. cond t (Some (error.Index unfit)) (Some (error.Null place))) e

told_null : (unfit : IndexError) (place : Place) → place.0 < unfit.place.0 → told (Some unfit) (Some place) ≡ Some (error.Null place)
told_null unfit place h =
    let e : leb unfit.place.0 place.0 ≡ false = grind (arith) in ap (λ t. cond t (Some (error.Index unfit)) (Some (error.Null place))) e

module _ (x : p.Program) where
  abbrev IsUnfit : Index → Type 0
  IsUnfit i = Contains (program_indexes x) i × (index_fits x.variables x.mutexes i ≡ false)

  -- an index that is no later than all others, and than each place of a reference
  index_before : (e : IndexError) → FirstUnfit x e → ((b : Place) → Contains (program_nulls x) b → e.place.0 ≤ b.0) → (other : r.Rule) (at : Place) →
      IsOutside x other at → e.place.0 ≤ at.0
  index_before e t nulls other at (by_index i c u f q) = omega (arith, t.first i c u, number_same at i.place q)
  index_before e t nulls other at (by_null c f) = nulls at c

  first_index : (e : IndexError) → FirstUnfit x e → ((b : Place) → Contains (program_nulls x) b → e.place.0 ≤ b.0) → IsFirstOutside x rule.Index e.place
  first_index e t nulls = record {
    outside = by_index t.tells.index t.tells.found t.tells.unfit refl t.tells.place;
    first = index_before e t nulls;
    index_first = λ o. refl;
  }

  -- a place that is no later than all others, and before each index that doesn't fit
  module _ (place : Place) (here : Contains (program_nulls x) place) (nulls : (b : Place) → Contains (program_nulls x) b → place.0 ≤ b.0)
      (indexes : (i : Index) → IsUnfit i → place.0 < i.place.0) where
    null_before : (other : r.Rule) (at : Place) → IsOutside x other at → place.0 ≤ at.0
    null_before other at (by_index i c u f q) = omega (arith, indexes i (c, u), number_same at i.place q)
    null_before other at (by_null c f) = nulls at c

    no_index : IsOutside x rule.Index place → ⊥
    no_index (by_index i c u f q) = omega (arith, indexes i (c, u), number_same place i.place q)
    no_index (by_null c f) = cc f

    first_null : IsFirstOutside x rule.Null place
    first_null = record { outside = by_null here refl; first = null_before; index_first = λ o. absurd (no_index o) }

  abbrev FindsUnfit : Option IndexError → Type 0
  FindsUnfit None = AllFit x
  FindsUnfit (Some e) = FirstUnfit x e

  finds_unfit : (o : Option IndexError) → o ≡ first_fault x (program_indexes x) → FindsUnfit o
  finds_unfit None h = all_fit x (sym h)
  finds_unfit (Some e) h = first_unfit x e (sym h)

  abbrev pub Says : Option RangeError → Type 0
  Says None = AllFit x × (program_nulls x ≡ [])
  Says (Some e) = IsFaultOf x e

  says : (unfit : Option IndexError) (null : Option Place) → FindsUnfit unfit → IsLeastOf (program_nulls x) null → Says (told unfit null)
  says None None fits none = (fits, none)
  says None (Some place) fits least =
      first_null place least.0 least.1 (λ i k. contrary (index_fits x.variables x.mutexes i) (fits i k.0) k.1)
  says (Some e) None t none =
      (first_index e t (λ b c. absurd (none_in b (subst (λ (ps : List Place). Contains ps b) none c))), t.tells)
  says (Some e) (Some place) t least = ⊎_elim
      (λ h. subst Says (sym (told_null e place h)) (first_null place least.0 least.1 (λ i k. omega (arith, h, t.first i k.0 k.1))))
      (λ h. subst Says (sym (told_index e place h)) (first_index e t (λ b c. omega (arith, h, least.1 b c)), t.tells))
      (cases_lt place.0 e.place.0)

  -- what is said of the first index and of the least of the places that were gathered
  pub says_of : (unfit : Option IndexError) (null : Option Place) (given places : List Place) → unfit ≡ first_fault x (program_indexes x) → given ≡ places →
      places ≡ program_nulls x → IsLeastOf given null → Says (told unfit null)
  says_of unfit null given places h e g least =
      says unfit null (finds_unfit unfit h) (subst (λ (ps : List Place). IsLeastOf ps null) (e ∙ g) least)

-- ---- Want of memory

pub by_memory : {X : Type 0} (Done : X → Type 0) (Fails : RangeError → Type 0) (result : Result X RangeError) → IsErrAnd result (λ e. e ≡ error.Memory) →
    Fails error.Memory → MatchResult result Done Fails
by_memory Done Fails (Ok y) h a = absurd h
by_memory Done Fails (Err e) h a = subst Fails (sym h) a
