-- What a thread has left at each node follows no reference that may be null, where those that are known there aren't.
use Rattle.std.proofs.Common.{◌≡◌, inl, inr, refl, sym, ◌∙◌, subst, ℕ, ◌==◌, List, [], ◌∷◌, ◌++◌, Bool, true, false, Option, Some, None}
use Rattle.std.specs.Prelude.{ℤ, if◌then◌else◌}
use Rattle.std.specs.List.{AllZip}
use Rattle.std.proofs.lemmas.Bool.{eqb-true, or_cases, true≢false}
use Rattle.ido_base.specs.declared.place.Place.{Place}
use Rattle.c_tree.specs.Exprs as e
use Rattle.c_tree.specs.Flats as f
use Rattle.c_tree.specs.NullReferences.{is_among, unnull, placed_nulls, flat_known_with, flat_known_in}
use Rattle.c_tree.specs.NullReferences.{flat_statement_assigned, flat_statements_assigned, flat_arms_assigned, flat_statement_nulls, flat_statements_nulls}
use Rattle.c_tree.specs.NullReferences.{flat_arms_nulls}
use Rattle.c_tree.specs.Source.{opened_all}
use Rattle.c_tree.proofs.Public.{among_cases, among_none, both_empty, left_empty, none_among, none_as_first, right_empty}
use Rattle.c_ranges.specs.KnownAtSteps.{assign_knowns, knowns, knowns_in_all, knowns_in_arms, thread_knowns}
use Rattle.c_ranges.specs.RunInvariants.{IsSure, AreKnownLeft}
use Rattle.c_ranges.proofs.Public.{known_opened_all}
use Rattle.flow_graph.specs.Lockstep.{Standing, free, assign_standings, standings, all_standings, arms_standings, thread_standings}

-- ---- What is left, by what is known

-- where the known locals are sure, whatever is assigned before
abbrev pub IsLeftBy : (known : List ℕ) → List f.Statement → Type 0
IsLeftBy known left =
    (ls : List ℤ) (assigned : List ℕ) → ((local : ℕ) → is_among known local ≡ true → IsSure ls assigned local) → AreKnownLeft ls assigned left

abbrev pub StandsBy : Standing → (known : List ℕ) → Type 0
StandsBy s known = IsLeftBy known s.left

-- none of the known locals is assigned
abbrev AreFree : (known assigned : List ℕ) → Type 0
AreFree known assigned = (local : ℕ) → is_among known local ≡ true → is_among assigned local ≡ false

first_free : (known xs ys : List ℕ) → AreFree known (xs ++ ys) → AreFree known xs
first_free known xs ys h local k = (among_none xs ys local (h local k)).0

rest_free : (known xs ys : List ℕ) → AreFree known (xs ++ ys) → AreFree known ys
rest_free known xs ys h local k = (among_none xs ys local (h local k)).1

still_sure : (ls : List ℤ) (known assigned more : List ℕ) → AreFree known more → ((local : ℕ) → is_among known local ≡ true → IsSure ls assigned local) →
    (local : ℕ) → is_among known local ≡ true → IsSure ls (assigned ++ more) local
still_sure ls known assigned more free sure local k =
    let s = sure local k in record { some = s.some; kept = none_among assigned more local s.kept (free local k) }

stays_with : (known : List ℕ) (y : f.Statement) (rest : List f.Statement) → flat_statement_nulls known y ≡ [] → AreFree known (flat_statement_assigned y) →
    IsLeftBy known rest → IsLeftBy known (y ∷ rest)
stays_with known y rest h free k ls assigned sure =
    let after = still_sure ls known assigned (flat_statement_assigned y) free sure in (
      record { known = known; sure = after; never_null = h },
      k ls (assigned ++ flat_statement_assigned y) after,
    )

opened_stay : (known : List ℕ) (ys : f.Statements) (rest : List f.Statement) → flat_statements_nulls known ys ≡ [] →
    AreFree known (flat_statements_assigned ys) → IsLeftBy known rest → IsLeftBy known (opened_all ys ++ rest)
opened_stay known ys rest h free k ls assigned sure =
    let after = still_sure ls known assigned (flat_statements_assigned ys) free sure in
    known_opened_all ls known assigned ys rest h after (k ls (assigned ++ flat_statements_assigned ys) after)

-- ---- In a block that knows of more

single : (own local : ℕ) → is_among (own ∷ []) local ≡ true → own ≡ local
single own local h = elim (or_cases (own == local) false h) [
  | inl is ↦ eqb-true own local is
  | inr other ↦ absurd (true≢false (sym other))
]

still_known : (known : List ℕ) (own local : ℕ) → is_among known local ≡ true → is_among (known ++ own ∷ []) local ≡ true
still_known known own local h = by (is_among (known ++ own ∷ []) local) refl
  where
    by : (c : Bool) → is_among (known ++ own ∷ []) local ≡ c → is_among (known ++ own ∷ []) local ≡ true
    by true is = is
    by false is = absurd (true≢false (sym h ∙ (among_none known (own ∷ []) local is).0))

module _ (known : List ℕ) (body : f.Statements) where
  wider_by : (o : Option ℕ) (left : List f.Statement) → IsLeftBy known left → IsLeftBy (flat_known_with known body o) left
  wider_by None left k = k
  wider_by (Some own) left k = by (is_among (flat_statements_assigned body) own)
    where
      by : (c : Bool) → IsLeftBy (if c then known else known ++ own ∷ []) left
      by true = k
      by false = λ ls assigned sure. k ls assigned (λ local among. sure local (still_known known own local among))

  free_by : AreFree known (flat_statements_assigned body) → (o : Option ℕ) → AreFree (flat_known_with known body o) (flat_statements_assigned body)
  free_by free None = free
  free_by free (Some own) = by (is_among (flat_statements_assigned body) own) refl
    where
      by : (c : Bool) → is_among (flat_statements_assigned body) own ≡ c → AreFree (if c then known else known ++ own ∷ []) (flat_statements_assigned body)
      by true is = free
      by false is = λ local h. elim (among_cases known (own ∷ []) local h) [
        | inl before ↦ free local before
        | inr last ↦ subst (λ (k : ℕ). is_among (flat_statements_assigned body) k ≡ false) (single own local last) is
      ]

  wider : (first : Bool) (condition : e.Placed) (left : List f.Statement) → IsLeftBy known left → IsLeftBy (flat_known_in known first condition body) left
  wider false condition left k = k
  wider true condition left k = wider_by (unnull condition.expr) left k

  free_inside : (first : Bool) (condition : e.Placed) → AreFree known (flat_statements_assigned body) →
      AreFree (flat_known_in known first condition body) (flat_statements_assigned body)
  free_inside false condition free = free
  free_inside true condition free = free_by free (unnull condition.expr)

-- ---- At each node of a part

zip_joined : (ss others : List Standing) (ks more : List (List ℕ)) → AllZip StandsBy ss ks → AllZip StandsBy others more →
    AllZip StandsBy (ss ++ others) (ks ++ more)
zip_joined [] others [] more h k = k
zip_joined [] others (x ∷ ks) more h k = absurd h
zip_joined (s ∷ ss) others [] more h k = absurd h
zip_joined (s ∷ ss) others (x ∷ ks) more h k = (h.0, zip_joined ss others ks more h.1 k)

at_assign : (known : List ℕ) (place : Place) (target : e.Lvalue) (value : e.Placed) (rest : List f.Statement) →
    IsLeftBy known (f.Assign place target value ∷ rest) → IsLeftBy known rest →
    AllZip StandsBy (assign_standings place target value rest) (assign_knowns known target)
at_assign known place (e.ToLocal name local kind) value rest h k = (h, tt)
at_assign known place (e.ToVariable name variable kind) value rest h k = (h, (k, tt))
at_assign known place (e.ToElement name variable kind index) value rest h k = (h, (k, tt))

abbrev free_at : List f.Statement → List Standing
free_at left = free left ∷ []

mutual
  known_in : (known : List ℕ) (y : f.Statement) (rest : List f.Statement) → flat_statement_nulls known y ≡ [] → AreFree known (flat_statement_assigned y) →
      IsLeftBy known rest → AllZip StandsBy (standings y rest) (knowns known y)
  known_in known (f.Assign place target value) rest h free k =
      at_assign known place target value rest (stays_with known (f.Assign place target value) rest h free k) k
  known_in known (f.If place arms otherwise) rest h free k =
      let of_arms = left_empty (flat_arms_nulls known true arms) (flat_statements_nulls known otherwise) h in
      let of_rest = right_empty (flat_arms_nulls known true arms) (flat_statements_nulls known otherwise) h in
      let arms_free = first_free known (flat_arms_assigned arms) (flat_statements_assigned otherwise) free in
      let otherwise_free = rest_free known (flat_arms_assigned arms) (flat_statements_assigned otherwise) free in
      zip_joined (arms_standings arms place otherwise rest) (all_standings otherwise rest) (knowns_in_arms known true arms) (knowns_in_all known otherwise)
      (known_in_arms known true arms place otherwise rest of_arms of_arms of_rest arms_free otherwise_free k)
      (known_in_all known otherwise rest of_rest otherwise_free k)
  known_in known (f.While place condition body) rest h free k =
      let again = stays_with known (f.While place condition body) rest h free k in (
        again,
        known_in_all known body (f.While place condition body ∷ rest)
            (right_empty (placed_nulls known condition) (flat_statements_nulls known body) h) free again,
      )
  known_in known (f.Do place body condition) rest h free k =
      let loop = f.While place condition body in
      let inner = left_empty (flat_statements_nulls known body) (placed_nulls known condition) h in
      let tests = right_empty (flat_statements_nulls known body) (placed_nulls known condition) h in
      let again : IsLeftBy known (loop ∷ rest) =
      stays_with known loop rest (both_empty (placed_nulls known condition) (flat_statements_nulls known body) tests inner) free k in
      zip_joined (all_standings body (loop ∷ rest)) (free_at (loop ∷ rest)) (knowns_in_all known body) (known ∷ [])
      (known_in_all known body (loop ∷ rest) inner free again) (again, tt)
  known_in known (f.Lock place lock) rest h free k = (stays_with known (f.Lock place lock) rest h free k, tt)
  known_in known (f.Unlock place lock) rest h free k = (stays_with known (f.Unlock place lock) rest h free k, tt)

  known_in_all : (known : List ℕ) (ys : f.Statements) (rest : List f.Statement) → flat_statements_nulls known ys ≡ [] →
      AreFree known (flat_statements_assigned ys) → IsLeftBy known rest → AllZip StandsBy (all_standings ys rest) (knowns_in_all known ys)
  known_in_all known f.no_statement rest h free k = tt
  known_in_all known (f.statement_and y more) rest h free k =
      let one = left_empty (flat_statement_nulls known y) (flat_statements_nulls known more) h in
      let others = right_empty (flat_statement_nulls known y) (flat_statements_nulls known more) h in
      let one_free = first_free known (flat_statement_assigned y) (flat_statements_assigned more) free in
      let others_free = rest_free known (flat_statement_assigned y) (flat_statements_assigned more) free in
      zip_joined (standings y (opened_all more ++ rest)) (all_standings more rest) (knowns known y) (knowns_in_all known more)
      (known_in known y (opened_all more ++ rest) one one_free (opened_stay known more rest others others_free k))
      (known_in_all known more rest others others_free k)

  -- an arm that is tested stands first in what is left
  known_in_arms : (known : List ℕ) (first : Bool) (arms : f.Arms) (place : Place) (otherwise : f.Statements) (rest : List f.Statement) →
      flat_arms_nulls known first arms ≡ [] → flat_arms_nulls known true arms ≡ [] → flat_statements_nulls known otherwise ≡ [] →
      AreFree known (flat_arms_assigned arms) → AreFree known (flat_statements_assigned otherwise) → IsLeftBy known rest →
      AllZip StandsBy (arms_standings arms place otherwise rest) (knowns_in_arms known first arms)
  known_in_arms known first f.no_arm place otherwise rest h as_first o free others k = tt
  known_in_arms known first (f.arm_and condition body more) place otherwise rest h as_first o free others k =
      let own = f.arm_and condition body more in
      let inside = flat_known_in known first condition body in
      let before = placed_nulls known condition ++ flat_statements_nulls inside body in
      let of_body = right_empty (placed_nulls known condition) (flat_statements_nulls inside body)
      (left_empty before (flat_arms_nulls known false more) h) in
      let of_more = right_empty before (flat_arms_nulls known false more) h in
      let body_free = first_free known (flat_statements_assigned body) (flat_arms_assigned more) free in
      let more_free = rest_free known (flat_statements_assigned body) (flat_arms_assigned more) free in
      let whole : IsLeftBy known (f.If place own otherwise ∷ rest) =
      stays_with known (f.If place own otherwise) rest (both_empty (flat_arms_nulls known true own) (flat_statements_nulls known otherwise) as_first o)
      (λ local among. none_among (flat_arms_assigned own) (flat_statements_assigned otherwise) local (free local among) (others local among)) k in (
        whole,
        zip_joined (all_standings body rest) (arms_standings more place otherwise rest) (knowns_in_all inside body) (knowns_in_arms known false more)
            (known_in_all inside body rest of_body (free_inside known body first condition body_free) (wider known body first condition rest k))
            (known_in_arms known false more place otherwise rest of_more (none_as_first known more of_more) o more_free others k),
      )

-- at each node of a thread, by what is known before its step
pub are_known : (t : f.Thread) → flat_statements_nulls [] t.body ≡ [] → AllZip StandsBy (thread_standings t) (thread_knowns t)
are_known t h =
    let none : IsLeftBy [] [] = λ ls assigned sure. tt in
    zip_joined (all_standings t.body []) (free [] ∷ []) (knowns_in_all [] t.body) ([] ∷ [])
    (known_in_all [] t.body [] h (λ local among. absurd (true≢false (sym among))) none) (none, tt)
