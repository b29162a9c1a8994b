-- Locals that are known not to be null: along what a thread has left, and where a condition says so.
use Rattle.std.proofs.Common.{◌≡◌, ◌≢◌, inl, inr, refl, sym, ◌∙◌, ap, subst, ℕ, ◌==◌, List, [], ◌∷◌, ◌++◌}
use Rattle.std.proofs.Common.{Bool, true, false, not, Option, Some, None, slice_index_or, slice_set, append-nil, append_assoc}
use Rattle.std.specs.Prelude.{ℤ, pos, if◌then◌else◌}
use Rattle.std.specs.Ordering.{int_eq}
use Rattle.std.proofs.lemmas.Bool.{eq-eqb, eqb-true, or_cases, or_parts, true≢false}
use Rattle.std.proofs.lemmas.Bool.Decides.{Decides-int_eq}
use Rattle.std.proofs.lemmas.List.{get_or-set_other}
use Rattle.std.proofs.lemmas.Option.{none-some, same_Some}
use Rattle.ido_base.specs.declared.place.Place.{Place}
use Rattle.ido_ints.specs.declared.kinds.Kind.{Kind}
use Rattle.ido_ints.specs.declared.kinds.Kind.TheVariants.{UnsignedLong}
use Rattle.ido_ints.specs.declared.operators.Binary.{Binary}
use Rattle.ido_ints.specs.declared.operators.Binary.TheVariants as b
use Rattle.ido_ints.specs.Kinds.{common_of}
use Rattle.ido_ints.specs.Operators.{is_zero, truth}
use Rattle.ido_ints.specs.Reduction.{reduced}
use Rattle.ido_ints.specs.TypedNumbers.{Typed, typed}
use Rattle.c_tree.specs.Exprs as e
use Rattle.c_tree.specs.Flats as f
use Rattle.c_tree.specs.NullReferences.{is_among, is_null, local_in, unequal_null, unnull, target_assigned, placed_nulls, flat_known_with, flat_known_in}
use Rattle.c_tree.specs.NullReferences.{flat_statement_assigned, flat_statements_assigned, flat_arms_assigned, flat_statement_nulls, flat_statements_nulls}
use Rattle.c_tree.specs.NullReferences.{flat_arms_nulls}
use Rattle.c_tree.specs.Source.{opened, opened_all, tested}
use Rattle.c_tree.specs.Values.{value}
use Rattle.c_tree.proofs.Public.{among_cases, among_none, both_empty, left_empty, none_among, none_as_first, right_empty, same_typed_is}
use Rattle.c_ranges.specs.RunInvariants.{IsSure, AreKnownLeft}

-- ---- What is left, after a step

-- what is known of a local where these are assigned holds, where others are and locals have other numbers
abbrev Moves : (ls js : List ℤ) (before after : List ℕ) → Type 0
Moves ls js before after = (local : ℕ) → IsSure ls before local → IsSure js after local

moves_on : (ls js : List ℤ) (before after more : List ℕ) → Moves ls js before after → Moves ls js (before ++ more) (after ++ more)
moves_on ls js before after more move local sure =
    let apart = among_none before more local sure.kept in
    let moved = move local (record { some = sure.some; kept = apart.0 }) in
    record { some = moved.some; kept = none_among after more local moved.kept apart.1 }

pub known_moves : (ls js : List ℤ) (before after : List ℕ) (ys : List f.Statement) → Moves ls js before after → AreKnownLeft ls before ys →
    AreKnownLeft js after ys
known_moves ls js before after [] move h = tt
known_moves ls js before after (y ∷ rest) move h =
    let more = flat_statement_assigned y in
    let on = moves_on ls js before after more move in (
      record { known = h.0.known; sure = λ local k. on local (h.0.sure local k); never_null = h.0.never_null },
      known_moves ls js (before ++ more) (after ++ more) rest on h.1,
    )

-- less is assigned
pub fewer : (ls : List ℤ) (before after : List ℕ) → ((local : ℕ) → is_among before local ≡ false → is_among after local ≡ false) → Moves ls ls before after
fewer ls before after sub local sure = record { some = sure.some; kept = sub local sure.kept }

-- ---- What is opened

module _ (ls : List ℤ) (known : List ℕ) where
  -- each of the known locals is sure, where these are assigned
  abbrev AreSure : List ℕ → Type 0
  AreSure assigned = (local : ℕ) → is_among known local ≡ true → IsSure ls assigned local

  regrouped : (xs ys zs : List ℕ) → AreSure (xs ++ (ys ++ zs)) → AreSure ((xs ++ ys) ++ zs)
  regrouped xs ys zs h = subst AreSure (sym (append_assoc xs ys zs)) h

  first_sure : (xs ys : List ℕ) → AreSure (xs ++ ys) → AreSure xs
  first_sure xs ys h local k = let sure = h local k in record { some = sure.some; kept = (among_none xs ys local sure.kept).0 }

  twice_sure : (xs ys : List ℕ) → AreSure (xs ++ ys) → AreSure ((xs ++ ys) ++ ys)
  twice_sure xs ys h local k =
      let sure = h local k in
      record { some = sure.some; kept = none_among (xs ++ ys) ys local sure.kept (among_none xs ys local sure.kept).1 }

  mutual
    known_opened : (before : List ℕ) (y : f.Statement) (rest : List f.Statement) → flat_statement_nulls known y ≡ [] →
        AreSure (before ++ flat_statement_assigned y) → AreKnownLeft ls (before ++ flat_statement_assigned y) rest →
        AreKnownLeft ls before (opened y ++ rest)
    known_opened before (f.Assign place target value) rest h sure more = (record { known = known; sure = sure; never_null = h }, more)
    known_opened before (f.If place arms otherwise) rest h sure more = (record { known = known; sure = sure; never_null = h }, more)
    known_opened before (f.While place condition body) rest h sure more = (record { known = known; sure = sure; never_null = h }, more)
    known_opened before (f.Do place body condition) rest h sure more =
        let loop = f.While place condition body in
        let again = flat_statements_assigned body in
        let inner = left_empty (flat_statements_nulls known body) (placed_nulls known condition) h in
        let tests = right_empty (flat_statements_nulls known body) (placed_nulls known condition) h in
        let after = known_moves ls ls (before ++ again) ((before ++ again) ++ again) rest
        (fewer ls (before ++ again) ((before ++ again) ++ again)
        (λ local none. none_among (before ++ again) again local none (among_none before again local none).1)) more in
        let left : AreKnownLeft ls (before ++ again) (loop ∷ rest) = (
          record {
            known = known;
            sure = twice_sure before again sure;
            never_null = both_empty (placed_nulls known condition) (flat_statements_nulls known body) tests inner;
          },
          after,
        ) in
        subst (AreKnownLeft ls before) (sym (append_assoc (opened_all body) (loop ∷ []) rest)) (known_opened_all before body (loop ∷ rest) inner sure left)
    known_opened before (f.Lock place lock) rest h sure more = (record { known = known; sure = sure; never_null = h }, more)
    known_opened before (f.Unlock place lock) rest h sure more = (record { known = known; sure = sure; never_null = h }, more)

    pub known_opened_all : (before : List ℕ) (ys : f.Statements) (rest : List f.Statement) → flat_statements_nulls known ys ≡ [] →
        AreSure (before ++ flat_statements_assigned ys) → AreKnownLeft ls (before ++ flat_statements_assigned ys) rest →
        AreKnownLeft ls before (opened_all ys ++ rest)
    known_opened_all before f.no_statement rest h sure more = subst (λ (xs : List ℕ). AreKnownLeft ls xs rest) (append-nil before) more
    known_opened_all before (f.statement_and y ys) rest h sure more =
        let one = flat_statement_assigned y in
        let others = flat_statements_assigned ys in
        let grouped = regrouped before one others sure in
        let after = subst (λ (xs : List ℕ). AreKnownLeft ls xs rest) (sym (append_assoc before one others)) more in
        subst (AreKnownLeft ls before) (sym (append_assoc (opened y) (opened_all ys) rest))
        (known_opened before y (opened_all ys ++ rest) (left_empty (flat_statement_nulls known y) (flat_statements_nulls known ys) h)
        (first_sure (before ++ one) others grouped)
        (known_opened_all (before ++ one) ys rest (right_empty (flat_statement_nulls known y) (flat_statements_nulls known ys) h) grouped after))

-- ---- What a condition says

null_is : (x : e.Expr) → is_null x ≡ true → x ≡ e.Constant (typed UnsignedLong (pos 0))
null_is (e.Constant value) h = ap (λ (v : Typed). e.Constant v) (same_typed_is value (typed UnsignedLong (pos 0)) h)
null_is (e.Local local kind) h = absurd (true≢false (sym h))
null_is (e.Variable place variable kind) h = absurd (true≢false (sym h))
null_is (e.Element place variable kind index_place index) h = absurd (true≢false (sym h))
null_is (e.Address variable index_place index) h = absurd (true≢false (sym h))
null_is (e.Referent place last local) h = absurd (true≢false (sym h))
null_is (e.Unary operator operand) h = absurd (true≢false (sym h))
null_is (e.Cast kind operand) h = absurd (true≢false (sym h))
null_is (e.Converted kind operand) h = absurd (true≢false (sym h))
null_is (e.Binary operator left right) h = absurd (true≢false (sym h))
null_is (e.Conditional kind condition chosen otherwise) h = absurd (true≢false (sym h))

-- a local, of some kind
record IsLocalOf (x : e.Expr) (local : ℕ) : Type 0 where
  kind : Kind
  is : x ≡ e.Local local kind

local_is : (x : e.Expr) (local : ℕ) → local_in x ≡ Some local → IsLocalOf x local
local_is (e.Local other kind) local h = record { kind = kind; is = ap (λ (l : ℕ). e.Local l kind) (same_Some other local h) }
local_is (e.Constant value) local h = absurd (none-some local h)
local_is (e.Variable place variable kind) local h = absurd (none-some local h)
local_is (e.Element place variable kind index_place index) local h = absurd (none-some local h)
local_is (e.Address variable index_place index) local h = absurd (none-some local h)
local_is (e.Referent place last other) local h = absurd (none-some local h)
local_is (e.Unary operator operand) local h = absurd (none-some local h)
local_is (e.Cast kind operand) local h = absurd (none-some local h)
local_is (e.Converted kind operand) local h = absurd (none-some local h)
local_is (e.Binary operator left right) local h = absurd (none-some local h)
local_is (e.Conditional kind condition chosen otherwise) local h = absurd (none-some local h)

-- 0 equals itself in every kind
equal_zeros : (k : Kind) → is_zero (truth (not (int_eq (reduced k (pos 0)) (reduced k (pos 0))))) ≡ true
equal_zeros k = ap (λ (c : Bool). is_zero (truth (not c))) ((Decides-int_eq (reduced k (pos 0)) (reduced k (pos 0))).1 refl)

module _ (ls : List ℤ) (vs : List (List ℤ)) (local : ℕ) (null : slice_index_or ls local (pos 0) ≡ pos 0) where
  abbrev Says : e.Expr → e.Expr → Type 0
  Says x y = is_zero (value ls vs (e.Binary b.NotEqual x y)).number ≡ true

  -- where the local is null, it isn't unequal to null
  differs : (left right : e.Expr) → unequal_null left right ≡ Some local → is_zero (value ls vs (e.Binary b.NotEqual left right)).number ≡ true
  differs left right h = by (is_null right) refl h
    where
      to_null : (kind : Kind) → Says (e.Local local kind) (e.Constant (typed UnsignedLong (pos 0)))
      to_null kind =
          let c = common_of kind UnsignedLong in
          ap (λ (n : ℤ). is_zero (truth (not (int_eq (reduced c n) (reduced c (pos 0)))))) null ∙ equal_zeros c

      from_null : (kind : Kind) → Says (e.Constant (typed UnsignedLong (pos 0))) (e.Local local kind)
      from_null kind =
          let c = common_of UnsignedLong kind in
          ap (λ (n : ℤ). is_zero (truth (not (int_eq (reduced c (pos 0)) (reduced c n))))) null ∙ equal_zeros c

      second : (c : Bool) → is_null left ≡ c → ◌≡◌ {A = Option ℕ} (if c then local_in right else None) (Some local) → Says left right
      second true is k =
          let it = local_is right local k in
          subst (λ (x : e.Expr). Says x right) (sym (null_is left is)) (subst (Says (e.Constant (typed UnsignedLong (pos 0)))) (sym it.is) (from_null it.kind))
      second false is k = absurd (none-some local k)

      by : (c : Bool) → is_null right ≡ c → ◌≡◌ {A = Option ℕ} (if c then local_in left else if is_null left then local_in right else None) (Some local) →
          Says left right
      by true is k =
          let it = local_is left local k in
          subst (Says left) (sym (null_is right is)) (subst (λ (x : e.Expr). Says x (e.Constant (typed UnsignedLong (pos 0)))) (sym it.is) (to_null it.kind))
      by false is k = second (is_null left) refl k

  by_operator : (o : Binary) (left right : e.Expr) → unnull (e.Binary o left right) ≡ Some local → is_zero (value ls vs (e.Binary o left right)).number ≡ true
  by_operator b.NotEqual left right h = differs left right h
  by_operator b.LogicalOr left right h = absurd (none-some local h)
  by_operator b.LogicalAnd left right h = absurd (none-some local h)
  by_operator b.Or left right h = absurd (none-some local h)
  by_operator b.Xor left right h = absurd (none-some local h)
  by_operator b.And left right h = absurd (none-some local h)
  by_operator b.Equal left right h = absurd (none-some local h)
  by_operator b.Less left right h = absurd (none-some local h)
  by_operator b.Greater left right h = absurd (none-some local h)
  by_operator b.LessEqual left right h = absurd (none-some local h)
  by_operator b.GreaterEqual left right h = absurd (none-some local h)
  by_operator b.ShiftLeft left right h = absurd (none-some local h)
  by_operator b.ShiftRight left right h = absurd (none-some local h)
  by_operator b.Add left right h = absurd (none-some local h)
  by_operator b.Sub left right h = absurd (none-some local h)
  by_operator b.Mul left right h = absurd (none-some local h)
  by_operator b.Div left right h = absurd (none-some local h)
  by_operator b.Rem left right h = absurd (none-some local h)

  -- nor does any condition hold that says so
  fails_at_null : (x : e.Expr) → unnull x ≡ Some local → is_zero (value ls vs x).number ≡ true
  fails_at_null (e.Binary o left right) h = by_operator o left right h
  fails_at_null (e.Constant value) h = absurd (none-some local h)
  fails_at_null (e.Local other kind) h = absurd (none-some local h)
  fails_at_null (e.Variable place variable kind) h = absurd (none-some local h)
  fails_at_null (e.Element place variable kind index_place index) h = absurd (none-some local h)
  fails_at_null (e.Address variable index_place index) h = absurd (none-some local h)
  fails_at_null (e.Referent place last other) h = absurd (none-some local h)
  fails_at_null (e.Unary operator operand) h = absurd (none-some local h)
  fails_at_null (e.Cast kind operand) h = absurd (none-some local h)
  fails_at_null (e.Converted kind operand) h = absurd (none-some local h)
  fails_at_null (e.Conditional kind condition chosen otherwise) h = absurd (none-some local h)

-- a condition that holds says of its local that it isn't null
pub says_so : (ls : List ℤ) (vs : List (List ℤ)) (x : e.Expr) (local : ℕ) → unnull x ≡ Some local → not (is_zero (value ls vs x).number) ≡ true →
    slice_index_or ls local (pos 0) ≢ pos 0
says_so ls vs x local h holds null = let both : not true ≡ true = ap not (sym (fails_at_null ls vs local null x h)) ∙ holds in true≢false (sym both)

-- ---- Steps

module _ (ls : List ℤ) (known : List ℕ) where
  -- the locals that a block knows of that a condition leads to
  known_inside : (vs : List (List ℤ)) (condition : e.Placed) (body : f.Statements) → not (is_zero (value ls vs condition.expr).number) ≡ true →
      AreSure ls known (flat_statements_assigned body) → (o : Option ℕ) → unnull condition.expr ≡ o →
      AreSure ls (flat_known_with known body o) (flat_statements_assigned body)
  known_inside vs condition body holds sure None e = sure
  known_inside vs condition body holds sure (Some own) e = by (is_among (flat_statements_assigned body) own) refl
    where
      single : (local : ℕ) → is_among (own ∷ []) local ≡ true → own ≡ local
      single local h = elim (or_cases (own == local) false h) [
        | inl is ↦ eqb-true own local is
        | inr other ↦ absurd (true≢false (sym other))
      ]

      by : (c : Bool) → is_among (flat_statements_assigned body) own ≡ c → (local : ℕ) → is_among (if c then known else known ++ own ∷ []) local ≡ true →
          IsSure ls (flat_statements_assigned body) local
      by true is local h = sure local h
      by false is local h = elim (among_cases known (own ∷ []) local h) [
        | inl before ↦ sure local before
        | inr last ↦
            subst (IsSure ls (flat_statements_assigned body)) (single local last)
            (record { some = says_so ls vs condition.expr own e holds; kept = is })
      ]

  -- what an `if` with these other arms assigns, and where its references may be null
  abbrev assigned_with : (body otherwise : f.Statements) → f.Arms → List ℕ
  assigned_with body otherwise others = (flat_statements_assigned body ++ flat_arms_assigned others) ++ flat_statements_assigned otherwise

  abbrev nulls_with : (condition : e.Placed) → (body otherwise : f.Statements) → f.Arms → List Place
  nulls_with condition body otherwise others =
      ((placed_nulls known condition ++ flat_statements_nulls (flat_known_in known true condition body) body) ++ flat_arms_nulls known false others)
      ++ flat_statements_nulls known otherwise

  -- an `if`, whose first condition is tested
  pub known_tested : (vs : List (List ℤ)) (holds : Bool) (place : Place) (condition : e.Placed) (body : f.Statements) (arms : f.Arms)
      (otherwise : f.Statements) (rest : List f.Statement) → not (is_zero (value ls vs condition.expr).number) ≡ holds →
      (let whole = f.If place (f.arm_and condition body arms) otherwise in
      flat_statement_nulls known whole ≡ [] → AreSure ls known (flat_statement_assigned whole) → AreKnownLeft ls (flat_statement_assigned whole) rest →
      AreKnownLeft ls [] (tested holds (opened_all body) (f.If place arms otherwise ∷ []) (opened_all otherwise) arms ++ rest))
  known_tested vs holds place condition body arms otherwise rest is h sure more = by holds arms is h sure more
    where
      body_free : (others : f.Arms) (local : ℕ) → is_among (assigned_with body otherwise others) local ≡ false →
          is_among (flat_statements_assigned body) local ≡ false
      body_free others local none =
          (among_none (flat_statements_assigned body) (flat_arms_assigned others) local
          (among_none (flat_statements_assigned body ++ flat_arms_assigned others) (flat_statements_assigned otherwise) local none).0).0

      otherwise_free : (others : f.Arms) (local : ℕ) → is_among (assigned_with body otherwise others) local ≡ false →
          is_among (flat_statements_assigned otherwise) local ≡ false
      otherwise_free others local none =
          (among_none (flat_statements_assigned body ++ flat_arms_assigned others) (flat_statements_assigned otherwise) local none).1

      arms_free : (others : f.Arms) (local : ℕ) → is_among (assigned_with body otherwise others) local ≡ false →
          is_among (flat_arms_assigned others ++ flat_statements_assigned otherwise) local ≡ false
      arms_free others local none =
          let parts = among_none (flat_statements_assigned body ++ flat_arms_assigned others) (flat_statements_assigned otherwise) local none in
          none_among (flat_arms_assigned others) (flat_statements_assigned otherwise) local
          (among_none (flat_statements_assigned body) (flat_arms_assigned others) local parts.0).1 parts.1

      surer : (xs ys : List ℕ) → ((local : ℕ) → is_among xs local ≡ false → is_among ys local ≡ false) → AreSure ls known xs → AreSure ls known ys
      surer xs ys sub s local k = let one = s local k in record { some = one.some; kept = sub local one.kept }

      by : (c : Bool) (others : f.Arms) → not (is_zero (value ls vs condition.expr).number) ≡ c → nulls_with condition body otherwise others ≡ [] →
          AreSure ls known (assigned_with body otherwise others) → AreKnownLeft ls (assigned_with body otherwise others) rest →
          AreKnownLeft ls [] (tested c (opened_all body) (f.If place others otherwise ∷ []) (opened_all otherwise) others ++ rest)
      by true others holds none s k =
          let inside = flat_known_in known true condition body in
          let first = placed_nulls known condition ++ flat_statements_nulls inside body in
          let arms_none = left_empty (first ++ flat_arms_nulls known false others) (flat_statements_nulls known otherwise) none in
          let body_none = right_empty (placed_nulls known condition) (flat_statements_nulls inside body)
          (left_empty first (flat_arms_nulls known false others) arms_none) in
          let own = surer (assigned_with body otherwise others) (flat_statements_assigned body) (body_free others) s in
          known_opened_all ls inside [] body rest body_none (known_inside vs condition body holds own (unnull condition.expr) refl)
          (known_moves ls ls (assigned_with body otherwise others) (flat_statements_assigned body) rest
          (fewer ls (assigned_with body otherwise others) (flat_statements_assigned body) (body_free others)) k)
      by false f.no_arm holds none s k =
          let first = placed_nulls known condition ++ flat_statements_nulls (flat_known_in known true condition body) body in
          known_opened_all ls known [] otherwise rest (right_empty (first ++ []) (flat_statements_nulls known otherwise) none)
          (surer (assigned_with body otherwise f.no_arm) (flat_statements_assigned otherwise) (otherwise_free f.no_arm) s)
          (known_moves ls ls (assigned_with body otherwise f.no_arm) (flat_statements_assigned otherwise) rest
          (fewer ls (assigned_with body otherwise f.no_arm) (flat_statements_assigned otherwise) (otherwise_free f.no_arm)) k)
      by false (f.arm_and next inner others) holds none s k =
          let own = f.arm_and next inner others in
          let left = flat_arms_assigned own ++ flat_statements_assigned otherwise in
          let first = placed_nulls known condition ++ flat_statements_nulls (flat_known_in known true condition body) body in
          let arms_none = right_empty first (flat_arms_nulls known false own)
          (left_empty (first ++ flat_arms_nulls known false own) (flat_statements_nulls known otherwise) none) in
          let last = right_empty (first ++ flat_arms_nulls known false own) (flat_statements_nulls known otherwise) none in (
            record {
              known = known;
              sure = surer (assigned_with body otherwise own) left (arms_free own) s;
              never_null = both_empty (flat_arms_nulls known true own) (flat_statements_nulls known otherwise) (none_as_first known own arms_none) last;
            },
            known_moves ls ls (assigned_with body otherwise own) left rest (fewer ls (assigned_with body otherwise own) left (arms_free own)) k,
          )

  -- a `while`, whose condition is tested
  pub known_while : (holds : Bool) (place : Place) (condition : e.Placed) (body : f.Statements) (rest : List f.Statement) →
      flat_statement_nulls known (f.While place condition body) ≡ [] → AreSure ls known (flat_statements_assigned body) →
      AreKnownLeft ls (flat_statements_assigned body) rest →
      AreKnownLeft ls [] (if holds then opened_all body ++ (f.While place condition body ∷ rest) else rest)
  known_while true place condition body rest h sure more =
      let again = flat_statements_assigned body in
      let loop = f.While place condition body in
      let after = known_moves ls ls again (again ++ again) rest (fewer ls again (again ++ again) (λ local none. none_among again again local none none)) more in
      known_opened_all ls known [] body (loop ∷ rest) (right_empty (placed_nulls known condition) (flat_statements_nulls known body) h) sure (
        record { known = known; sure = twice_sure ls known [] again sure; never_null = h },
        after,
      )
  known_while false place condition body rest h sure more =
      known_moves ls ls (flat_statements_assigned body) [] rest (fewer ls (flat_statements_assigned body) [] (λ local none. refl)) more

-- an assignment
assigned_apart : (ls : List ℤ) (local : ℕ) (n : ℤ) → Moves ls (slice_set ls local n) (local ∷ []) []
assigned_apart ls local n other sure = record {
  some = λ null. sure.some (sym (get_or-set_other ls local other n (pos 0) (apart other sure.kept)) ∙ null);
  kept = refl;
}
  where
    apart : (k : ℕ) → is_among (local ∷ []) k ≡ false → k ≢ local
    apart k h same = true≢false (sym (eq-eqb local k (sym same)) ∙ (or_parts (local == k) false h).0)

pub known_assigned : (ls : List ℤ) (target : e.Lvalue) (n : ℤ) (rest : List f.Statement) → AreKnownLeft ls (target_assigned target) rest → (js : List ℤ) →
    js ≡ elim target as (λ _. List ℤ) [
      | e.ToLocal place local kind ↦ slice_set ls local n
      | e.ToVariable place variable kind ↦ ls
      | e.ToElement place variable kind index ↦ ls
    ] → AreKnownLeft js [] rest
known_assigned ls (e.ToLocal place local kind) n rest h js is =
    subst (λ (ks : List ℤ). AreKnownLeft ks [] rest) (sym is) (known_moves ls (slice_set ls local n) (local ∷ []) [] rest (assigned_apart ls local n) h)
known_assigned ls (e.ToVariable place variable kind) n rest h js is = subst (λ (ks : List ℤ). AreKnownLeft ks [] rest) (sym is) h
known_assigned ls (e.ToElement place variable kind index) n rest h js is = subst (λ (ks : List ℤ). AreKnownLeft ks [] rest) (sym is) h
