-- What is left follows no reference that may be null, where no reference is null that is known not to be: what is known of other locals isn't wanted.
use Rattle.std.proofs.Common.{◌≡◌, ◌≢◌, inl, inr, refl, ap, sym, ◌∙◌, subst, arith, ℕ, zero, suc, ◌+◌, ◌<◌, ◌==◌, List, [], ◌∷◌, ◌++◌, Bool, true}
use Rattle.std.proofs.Common.{Option, Some, None}
use Rattle.std.specs.Prelude.{slice_get, slice_index_or, is_some, ℤ, pos, if◌then◌else◌, unsigned_abs}
use Rattle.std.specs.List.{AllByRecursion}
use Rattle.std.proofs.lemmas.Bool.{cases_Bool, cond-true, cond-false, eqb-true, or_cases, or_left, or_right, true≢false}
use Rattle.std.proofs.lemmas.Option.{get_or_from_slice_get, none-some, same_Some}
use Rattle.c_tree.specs.Flats as f
use Rattle.c_tree.specs.NullReferences.{is_among, flat_statement_assigned}
use Rattle.c_tree.specs.References.{IsFlatStatementReferring}
use Rattle.c_ranges.specs.RunInvariants.{AreKnownLeft}
use Rattle.region_attempts.specs.KnownReferences.{AreUnnull}
use Rattle.image_runs.proofs.FollowedLocals.{AreFollowedAmong, followed_among}
use Rattle.image_runs.proofs.LeftKnowns.{IsLeftBy}

-- ---- A number past all of these

abbrev past : List ℕ → ℕ
past [] = 0
past (x ∷ xs) = suc x + past xs

among_below : (xs : List ℕ) (x : ℕ) → is_among xs x ≡ true → x < past xs
among_below [] x h = absurd (true≢false (sym h))
among_below (y ∷ ys) x h = elim (or_cases (y == x) (is_among ys x) h) [
  | inl own ↦ let same = eqb-true y x own in omega (arith, same)
  | inr later ↦ let l = among_below ys x later in omega (arith, l)
]

-- ---- Numbers with which each local that doesn't refer is sure

abbrev own_or_one : (refers : Option ℕ) → ℤ → ℤ
own_or_one None z = pos 1
own_or_one (Some array) z = z

-- so many
abbrev marked : List (Option ℕ) → List ℤ → (count : ℕ) → List ℤ
marked rs ls zero = []
marked [] ls (suc n) = pos 1 ∷ marked [] ls n
marked (r ∷ rs) [] (suc n) = own_or_one r (pos 0) ∷ marked rs [] n
marked (r ∷ rs) (z ∷ ls) (suc n) = own_or_one r z ∷ marked rs ls n

one_some : pos 1 ≢ pos 0
one_some e = let zeroth : 1 ≡ 0 = ap unsigned_abs e in omega (arith, zeroth)

own_some : (r : Option ℕ) (z : ℤ) → ((array : ℕ) → Some r ≡ Some (Some array) → z ≢ pos 0) → own_or_one r z ≢ pos 0
own_some None z some = one_some
own_some (Some array) z some = some array refl

marked_some : (rs : List (Option ℕ)) (ls : List ℤ) (count local : ℕ) → local < count →
    ((array : ℕ) → slice_get rs local ≡ Some (Some array) → slice_index_or ls local (pos 0) ≢ pos 0) →
    slice_index_or (marked rs ls count) local (pos 0) ≢ pos 0
marked_some rs ls zero local low some = absurd (let z : ⊥ = omega (arith, low) in z)
marked_some [] ls (suc n) zero low some = one_some
marked_some [] ls (suc n) (suc local) low some = marked_some [] ls n local (omega (arith, low)) (λ array e. absurd (none-some (Some array) e))
marked_some (r ∷ rs) [] (suc n) zero low some = own_some r (pos 0) some
marked_some (r ∷ rs) [] (suc n) (suc local) low some = marked_some rs [] n local (omega (arith, low)) some
marked_some (r ∷ rs) (z ∷ ls) (suc n) zero low some = own_some r z some
marked_some (r ∷ rs) (z ∷ ls) (suc n) (suc local) low some = marked_some rs ls n local (omega (arith, low)) some

-- a reference that is sure with them is sure
marked_back : (rs : List (Option ℕ)) (ls : List ℤ) (count local array : ℕ) → slice_get rs local ≡ Some (Some array) →
    slice_index_or (marked rs ls count) local (pos 0) ≢ pos 0 → slice_index_or ls local (pos 0) ≢ pos 0
marked_back rs ls zero local array refers some = absurd (some refl)
marked_back [] ls (suc n) local array refers some = absurd (none-some (Some array) refers)
marked_back (r ∷ rs) [] (suc n) zero array refers some = subst (λ (o : Option ℕ). own_or_one o (pos 0) ≢ pos 0) (same_Some r (Some array) refers) some
marked_back (r ∷ rs) [] (suc n) (suc local) array refers some = marked_back rs [] n local array refers some
marked_back (r ∷ rs) (z ∷ ls) (suc n) zero array refers some = subst (λ (o : Option ℕ). own_or_one o z ≢ pos 0) (same_Some r (Some array) refers) some
marked_back (r ∷ rs) (z ∷ ls) (suc n) (suc local) array refers some = marked_back rs ls n local array refers some

-- ---- The references among locals

abbrev is_reference : List (Option ℕ) → (local : ℕ) → Bool
is_reference rs local = is_some (slice_index_or rs local None)

abbrev references_in : List (Option ℕ) → (locals : List ℕ) → List ℕ
references_in rs [] = []
references_in rs (x ∷ xs) = if is_reference rs x then x ∷ references_in rs xs else references_in rs xs

reference_at : (rs : List (Option ℕ)) (local : ℕ) → is_reference rs local ≡ true → (array : ℕ) × (slice_get rs local ≡ Some (Some array))
reference_at [] local h = absurd (true≢false (sym h))
reference_at (None ∷ rs) zero h = absurd (true≢false (sym h))
reference_at (Some array ∷ rs) zero h = (array, refl)
reference_at (r ∷ rs) (suc local) h = reference_at rs local h

-- one of them is one of the locals, and refers
record IsReferenceIn (rs : List (Option ℕ)) (xs : List ℕ) (local : ℕ) : Type 0 where
  among : is_among xs local ≡ true
  refers : is_reference rs local ≡ true

later_in : (rs : List (Option ℕ)) (x : ℕ) (xs : List ℕ) (local : ℕ) → IsReferenceIn rs xs local → IsReferenceIn rs (x ∷ xs) local
later_in rs x xs local r = record { among = or_right (x == local) (is_among xs local) r.among; refers = r.refers }

is_in : (rs : List (Option ℕ)) (xs : List ℕ) (local : ℕ) → is_among (references_in rs xs) local ≡ true → IsReferenceIn rs xs local
is_in rs [] local h = absurd (true≢false (sym h))
is_in rs (x ∷ xs) local h = elim (cases_Bool (is_reference rs x)) [
  | inl own ↦
      let both : is_among (x ∷ references_in rs xs) local ≡ true =
      subst (λ (ys : List ℕ). is_among ys local ≡ true) (cond-true (is_reference rs x) (x ∷ references_in rs xs) (references_in rs xs) own) h in
      elim (or_cases (x == local) (is_among (references_in rs xs) local) both) [
        | inl is ↦ record {
          among = or_left (x == local) (is_among xs local) is;
          refers = subst (λ (l : ℕ). is_reference rs l ≡ true) (eqb-true x local is) own;
        }
        | inr later ↦ later_in rs x xs local (is_in rs xs local later)
      ]
  | inr other ↦ later_in rs x xs local (is_in rs xs local
      (subst (λ (ys : List ℕ). is_among ys local ≡ true) (cond-false (is_reference rs x) (x ∷ references_in rs xs) (references_in rs xs) other) h))
]

in_them : (rs : List (Option ℕ)) (xs : List ℕ) (local : ℕ) → is_among xs local ≡ true → is_reference rs local ≡ true →
    is_among (references_in rs xs) local ≡ true
in_them rs [] local h refers = absurd (true≢false (sym h))
in_them rs (x ∷ xs) local h refers = elim (cases_Bool (is_reference rs x)) [
  | inl own ↦
      subst (λ (ys : List ℕ). is_among ys local ≡ true) (sym (cond-true (is_reference rs x) (x ∷ references_in rs xs) (references_in rs xs) own))
      (elim (or_cases (x == local) (is_among xs local) h) [
        | inl is ↦ or_left (x == local) (is_among (references_in rs xs) local) is
        | inr later ↦ or_right (x == local) (is_among (references_in rs xs) local) (in_them rs xs local later refers)
      ])
  | inr other ↦
      subst (λ (ys : List ℕ). is_among ys local ≡ true) (sym (cond-false (is_reference rs x) (x ∷ references_in rs xs) (references_in rs xs) other))
      (elim (or_cases (x == local) (is_among xs local) h) [
        | inl is ↦ absurd (true≢false (sym refers ∙ (ap (is_reference rs) (sym (eqb-true x local is)) ∙ other)))
        | inr later ↦ in_them rs xs local later refers
      ])
]

all_in : (rs : List (Option ℕ)) (xs : List ℕ) → AreFollowedAmong rs xs (references_in rs xs)
all_in rs xs local array refers among = in_them rs xs local among (ap is_some (get_or_from_slice_get rs local (Some array) None refers))

-- ---- What is left

module _ (x : f.Flat) (rs : List (Option ℕ)) (ls : List ℤ) where
  known_back : (count : ℕ) (assigned : List ℕ) (left : List f.Statement) → AllByRecursion (IsFlatStatementReferring x rs) left →
      AreKnownLeft (marked rs ls count) assigned left → AreKnownLeft ls assigned left
  known_back count assigned [] r k = tt
  known_back count assigned (y ∷ left) r k =
      let known : List ℕ = k.0.known in (
        record {
          known = references_in rs known;
          sure = λ local among.
              let own = is_in rs known local among in
              let refers = reference_at rs local own.refers in
              let s = k.0.sure local own.among in
              record { some = marked_back rs ls count local refers.0 refers.1 s.some; kept = s.kept };
          never_null = followed_among x rs known (references_in rs known) (all_in rs known) y r.0 k.0.never_null;
        },
        known_back count (assigned ++ flat_statement_assigned y) left r.1 k.1,
      )

  -- where none of the references is null that are known
  pub left_sure : (known : List ℕ) (left : List f.Statement) → AllByRecursion (IsFlatStatementReferring x rs) left → IsLeftBy known left →
      AreUnnull rs known ls → AreKnownLeft ls [] left
  left_sure known left r by unnull =
      known_back (past known) [] left r
      (by (marked rs ls (past known)) []
      (λ local among.
      record {
        some = marked_some rs ls (past known) local (among_below known local among) (λ array refers. unnull local array refers among);
        kept = refl;
      }))
