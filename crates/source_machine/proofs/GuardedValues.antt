-- What a thread holds, and the values that it reads under it.
use Rattle.std.proofs.Common.{◌≡◌, ◌≢◌, refl, ℕ, zero, suc, List, [], ◌∷◌, ◌++◌, sym, ◌∙◌, ap, ap₂}
use Rattle.std.proofs.Common.{Bool, true, false, Option, Some, None, slice_set, replicate, arith}
use Rattle.std.specs.Prelude.{slice_get, slice_index_or, ℤ, pos, not, find, if◌then◌else◌}
use Rattle.std.specs.Option.{option_or, unwrap_or}
use Rattle.std.proofs.lemmas.Bool.{eqb-true, eq-eqb}
use Rattle.std.proofs.lemmas.Bool.Decides.{nat_tests}
use Rattle.std.proofs.lemmas.Option.{unwrap_or-slice_get, get_or_from_slice_get}
use Rattle.std.proofs.lemmas.List.{map-set}
use Rattle.std.proofs.lemmas.List.Folds.{find-append}
use Rattle.std.proofs.Math.Seq.{map-set_same}
use Rattle.ido_base.specs.Locks.{is_held_by}
use Rattle.ido_ints.specs.TypedNumbers.{Typed, typed, converted}
use Rattle.ido_ints.specs.Operators.{is_zero, unary_of, binary_of}
use Rattle.c_tree.specs.Exprs as e
use Rattle.c_tree.specs.Programs.{Variable}
use Rattle.c_tree.specs.Values.{reference_to, element_number, element_at, value}
use Rattle.c_tree.specs.LockNames.{Held, holds}
use Rattle.c_tree.specs.LockDiscipline.{Use, expr_uses, is_guarded, AreGuarded}
use Rattle.c_tree.proofs.Public.{index_element}
use Rattle.source_machine.specs.ElementLocks.{found_number}
use Rattle.source_machine.specs.Mutexes.{held_by}

-- ---- What a thread holds

-- a mutex that is in the set is held by the thread
pub held_found : (t : ℕ) (hs : List (Option ℕ)) (k : ℕ) → holds (held_by t hs) k ≡ true → slice_get hs k ≡ Some (Some t)
held_found t [] k h = cc
held_found t (None ∷ hs) zero h = cc
held_found t (Some u ∷ hs) zero h = ap (λ (n : ℕ). Some (Some n)) (sym (eqb-true t u h))
held_found t (o ∷ hs) (suc k) h = held_found t hs k h

-- a mutex that the thread holds is in the set
pub held_there : (t : ℕ) (hs : List (Option ℕ)) (k : ℕ) → slice_get hs k ≡ Some (Some t) → holds (held_by t hs) k ≡ true
held_there t [] k h = cc
held_there t (o ∷ hs) zero h =
    let is : o ≡ Some t = cc in
    ap (is_held_by t) is ∙ eq-eqb t t refl
held_there t (o ∷ hs) (suc k) h = held_there t hs k h

-- a thread holds nothing of another's
pub held_apart : (u t : ℕ) → u ≢ t → is_held_by u (Some t) ≡ false
held_apart u t n = grind (arith, nat_tests)

-- a mutex that is taken is in the set
pub held_taken : (t : ℕ) (hs : List (Option ℕ)) (k : ℕ) → held_by t (slice_set hs k (Some t)) ≡ slice_set (held_by t hs) k true
held_taken t hs k = map-set (is_held_by t) hs k (Some t) ∙ ap (slice_set (held_by t hs) k) (eq-eqb t t refl)

-- a mutex that is given back isn't
pub held_given : (t : ℕ) (hs : List (Option ℕ)) (k : ℕ) → held_by t (slice_set hs k None) ≡ slice_set (held_by t hs) k false
held_given t hs k = map-set (is_held_by t) hs k None

-- a holder that the thread can't tell from the one before leaves its set as it is
pub held_kept : (u : ℕ) (hs : List (Option ℕ)) (k : ℕ) (before after : Option ℕ) → slice_get hs k ≡ Some before → is_held_by u after ≡ is_held_by u before →
    held_by u (slice_set hs k after) ≡ held_by u hs
held_kept u hs k before after g e = map-set_same (is_held_by u) hs k after None (e ∙ ap (is_held_by u) (sym (get_or_from_slice_get hs k before None g)))

-- nothing is held where all is free
pub held_none : (t n : ℕ) → held_by t (replicate n None) ≡ replicate n false
held_none t zero = refl
held_none t (suc n) = ap (λ (h : Held). false ∷ h) (held_none t n)

-- ---- Uses

-- a search that finds nothing passes over the first
first_of_none : (b : Bool) (u : Use) (o : Option Use) → (if not b then Some u else o) ≡ None → b ≡ true
first_of_none true u o h = refl
first_of_none false u o h = cc

-- a search that finds nothing passes over all but the first, too
rest_of_none : (b : Bool) (u : Use) (o : Option Use) → (if not b then Some u else o) ≡ None → o ≡ None
rest_of_none true u o h = h
rest_of_none false u o h = cc

-- of two answers without a use the first has none
left_of_none : (a b : Option Use) → option_or a b ≡ None → a ≡ None
left_of_none None b h = refl
left_of_none (Some u) b h = cc

-- of two answers without a use the second has none
right_of_none : (a b : Option Use) → option_or a b ≡ None → b ≡ None
right_of_none None b h = h
right_of_none (Some u) b h = cc

module _ (vs : List Variable) (names : List e.LockName) (h : Held) where
  -- the name of the use's lock isn't in the set
  abbrev unguarded : Use → Bool
  unguarded u = not (is_guarded vs names h u)

  -- the first use is guarded
  pub guarded_first : (u : Use) (us : List Use) → AreGuarded vs names h (u ∷ us) → is_guarded vs names h u ≡ true
  guarded_first u us g = first_of_none (is_guarded vs names h u) u (find unguarded us) g

  -- the uses after the first are guarded
  pub guarded_rest : (u : Use) (us : List Use) → AreGuarded vs names h (u ∷ us) → AreGuarded vs names h us
  guarded_rest u us g = rest_of_none (is_guarded vs names h u) u (find unguarded us) g

  -- of two lists the one in front
  pub guarded_left : (us ws : List Use) → AreGuarded vs names h (us ++ ws) → AreGuarded vs names h us
  guarded_left us ws g = left_of_none (find unguarded us) (find unguarded ws) (sym (find-append unguarded us ws) ∙ g)

  -- where the uses of two lists are guarded, those of the second are
  pub guarded_right : (us ws : List Use) → AreGuarded vs names h (us ++ ws) → AreGuarded vs names h ws
  guarded_right us ws g = right_of_none (find unguarded us) (find unguarded ws) (sym (find-append unguarded us ws) ∙ g)

-- ---- Elements

-- an element that is the same reads the same
pub found_same : (vs ws : List (List ℤ)) (v e : ℕ) → found_number ws v e ≡ found_number vs v e → element_number ws v e ≡ element_number vs v e
found_same vs ws v e h =
    sym (unwrap_or-slice_get (slice_index_or ws v []) e (pos 0))
    ∙ (ap (λ (o : Option ℤ). unwrap_or o (pos 0)) h ∙ unwrap_or-slice_get (slice_index_or vs v []) e (pos 0))

-- ---- Values

module _ (variables : List Variable) (names : List e.LockName) (h : Held) (ls : List ℤ) (vs ws : List (List ℤ))
    (same : (u : Use) → is_guarded variables names h u ≡ true →
    found_number ws u.variable (index_element ls vs u.index) ≡ found_number vs u.variable (index_element ls vs u.index)) where
  -- the element of a guarded use
  element_same : (u : Use) (n : ℕ) → is_guarded variables names h u ≡ true → n ≡ index_element ls vs u.index →
      element_number ws u.variable n ≡ element_number vs u.variable (index_element ls vs u.index)
  element_same u n g is =
      ap (element_number ws u.variable) is ∙ found_same vs ws u.variable (index_element ls vs u.index) (same u g)

  -- an expression whose uses are guarded has one value over variables that are the same where they are guarded
  pub value_same : (x : e.Expr) → AreGuarded variables names h (expr_uses x) → value ls ws x ≡ value ls vs x
  value_same (e.Constant x) g = refl
  value_same (e.Local local kind) g = refl
  value_same (e.Variable place v kind) g =
      let u : Use = record { variable = v; place = place; index = None } in
      ap (typed kind) (element_same u 0 (guarded_first variables names h u [] g) refl)
  value_same (e.Element place v kind index_place index) g =
      let u : Use = record { variable = v; place = place; index = Some (record { place = index_place; expr = index }) } in
      ap (typed kind) (element_same u _ (guarded_first variables names h u (expr_uses index) g)
      (ap element_at (value_same index (guarded_rest variables names h u (expr_uses index) g))))
  value_same (e.Address v index_place index) g = ap reference_to (value_same index g)
  value_same (e.Referent place last local) g = refl
  value_same (e.Unary operator operand) g = ap (unary_of operator) (value_same operand g)
  value_same (e.Cast kind operand) g = ap (λ (y : Typed). converted y kind) (value_same operand g)
  value_same (e.Converted kind operand) g = ap (λ (y : Typed). converted y kind) (value_same operand g)
  value_same (e.Binary operator left right) g =
      ap₂ (binary_of operator) (value_same left (guarded_left variables names h (expr_uses left) (expr_uses right) g))
      (value_same right (guarded_right variables names h (expr_uses left) (expr_uses right) g))
  value_same (e.Conditional kind condition chosen otherwise) g =
      let first = guarded_left variables names h (expr_uses condition ++ expr_uses chosen) (expr_uses otherwise) g in
      let pick = λ (c y n : Typed). converted (if is_zero c.number then n else y) kind in
      ap (λ (c : Typed). pick c (value ls ws chosen) (value ls ws otherwise))
      (value_same condition (guarded_left variables names h (expr_uses condition) (expr_uses chosen) first))
      ∙ (ap (λ (y : Typed). pick (value ls vs condition) y (value ls ws otherwise))
      (value_same chosen (guarded_right variables names h (expr_uses condition) (expr_uses chosen) first))
      ∙ ap (pick (value ls vs condition) (value ls vs chosen)) (value_same otherwise
      (guarded_right variables names h (expr_uses condition ++ expr_uses chosen) (expr_uses otherwise) g)))
