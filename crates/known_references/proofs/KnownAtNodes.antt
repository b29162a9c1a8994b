-- A node goes on to nodes at which no more is known than at itself, but for what its condition says where it holds; and it assigns none of the known locals.
use Rattle.std.proofs.Common.{◌≡◌, ◌⊎◌, inl, refl, sym, ◌∙◌, ap, ap₂, subst, ℕ, zero, suc, ◌+◌, List, [], ◌∷◌, ◌++◌, length, Bool, true, false, Some}
use Rattle.std.proofs.Common.{arith, length-append}
use Rattle.std.specs.Prelude.{slice_get}
use Rattle.std.specs.List.{AllZip}
use Rattle.std.proofs.lemmas.Bool.{true≢false}
use Rattle.std.proofs.lemmas.Option.{none-some}
use Rattle.ido_base.specs.declared.place.Place.{Place}
use Rattle.c_tree.specs.Exprs as e
use Rattle.c_tree.specs.Flats as f
use Rattle.c_tree.specs.NullReferences.{is_among, unnull, target_assigned, flat_known_in}
use Rattle.c_tree.specs.NullReferences.{flat_statement_assigned, flat_statements_assigned, flat_arms_assigned}
use Rattle.c_ranges.specs.KnownAtSteps.{assign_knowns, knowns, knowns_in_all, knowns_in_arms, thread_knowns}
use Rattle.flow_graph.specs.Nodes.{Action, Eval, Store, Test, Lock, Unlock, End, Node}
use Rattle.flow_graph.specs.Lowering.{Table, test_node, plain_node, assign_nodes, assign_count, count, statements_count, arms_count, entry}
use Rattle.flow_graph.specs.Lowering.{statement_nodes, statements_nodes, arms_nodes, thread_nodes}
use Rattle.region_attempts.proofs.Public.{IsFirst, arms_first, first_in_all}
use Rattle.known_references.proofs.KnownInBlocks.{AreAmong, AreFree, first_free, rest_free, more_inside, free_inside, said_inside}

-- ---- As many as there are nodes

length-assign_knowns : (known : List ℕ) (target : e.Lvalue) → length (assign_knowns known target) ≡ assign_count target
length-assign_knowns known (e.ToLocal place local kind) = refl
length-assign_knowns known (e.ToVariable place variable kind) = refl
length-assign_knowns known (e.ToElement place variable kind index) = refl

mutual
  length-knowns : (known : List ℕ) (y : f.Statement) → length (knowns known y) ≡ count y
  length-knowns known (f.Assign place target value) = length-assign_knowns known target
  length-knowns known (f.If place arms otherwise) =
      length-append (knowns_in_arms known true arms) (knowns_in_all known otherwise)
      ∙ ap₂ ◌+◌ (length-knowns_in_arms known true arms) (length-knowns_in_all known otherwise)
  length-knowns known (f.While place condition body) = ap suc (length-knowns_in_all known body)
  length-knowns known (f.Do place body condition) =
      omega (arith, length-append (knowns_in_all known body) (known ∷ []), length-knowns_in_all known body)
  length-knowns known (f.Lock place lock) = refl
  length-knowns known (f.Unlock place lock) = refl

  length-knowns_in_all : (known : List ℕ) (ys : f.Statements) → length (knowns_in_all known ys) ≡ statements_count ys
  length-knowns_in_all known f.no_statement = refl
  length-knowns_in_all known (f.statement_and y rest) =
      length-append (knowns known y) (knowns_in_all known rest) ∙ ap₂ ◌+◌ (length-knowns known y) (length-knowns_in_all known rest)

  length-knowns_in_arms : (known : List ℕ) (is_first : Bool) (arms : f.Arms) → length (knowns_in_arms known is_first arms) ≡ arms_count arms
  length-knowns_in_arms known is_first f.no_arm = refl
  length-knowns_in_arms known is_first (f.arm_and condition body rest) =
      let inside = flat_known_in known is_first condition body in
      ap suc (length-append (knowns_in_all inside body) (knowns_in_arms known false rest)
      ∙ ap₂ ◌+◌ (length-knowns_in_all inside body) (length-knowns_in_arms known false rest))

entry_end : (n first : ℕ) → entry n first (first + n) ≡ first
entry_end zero first = omega arith
entry_end (suc n) first = refl

get_prefix : {X : Type 0} (xs ys : List X) (k : ℕ) (x : X) → slice_get xs k ≡ Some x → slice_get (xs ++ ys) k ≡ Some x
get_prefix [] ys k x h = absurd (none-some x h)
get_prefix (y ∷ xs) ys zero x h = h
get_prefix (y ∷ xs) ys (suc k) x h = get_prefix xs ys k x h

get_suffix : {X : Type 0} (xs ys : List X) (k : ℕ) (x : X) → slice_get ys k ≡ Some x → slice_get (xs ++ ys) (length xs + k) ≡ Some x
get_suffix [] ys k x h = let e : 0 + k ≡ k = omega arith in ap (slice_get ys) e ∙ h
get_suffix (y ∷ xs) ys k x h =
    let e : suc (length xs) + k ≡ suc (length xs + k) = omega arith in
    ap (slice_get (y ∷ (xs ++ ys))) e ∙ get_suffix xs ys k x h

zip_joined : {A B : Type 0} (R : A → B → Type 0) (xs more : List A) (ys others : List B) → AllZip R xs ys → AllZip R more others →
    AllZip R (xs ++ more) (ys ++ others)
zip_joined R [] more [] others h k = k
zip_joined R [] more (y ∷ ys) others h k = absurd h
zip_joined R (x ∷ xs) more [] others h k = absurd h
zip_joined R (x ∷ xs) more (y ∷ ys) others h k = (h.0, zip_joined R xs more ys others h.1 k)

-- ---- What is known at the nodes

module _ (known_of : ℕ → List ℕ) where
  -- the list is what is known from that node on
  record Has (first : ℕ) (xs : List (List ℕ)) : Type 0 where
    each : (k : ℕ) (known : List ℕ) → slice_get xs k ≡ Some known → known_of (first + k) ≡ known

  at_same : (n m : ℕ) (known : List ℕ) → n ≡ m → known_of n ≡ known → known_of m ≡ known
  at_same n m known h is = ap known_of (sym h) ∙ is

  has_prefix : (first : ℕ) (xs ys : List (List ℕ)) → Has first (xs ++ ys) → Has first xs
  has_prefix first xs ys h = record { each = λ k known g. h.each k known (get_prefix xs ys k known g) }

  has_suffix : (first n : ℕ) (xs ys : List (List ℕ)) → length xs ≡ n → Has first (xs ++ ys) → Has (first + n) ys
  has_suffix first n xs ys e h = record {
    each = λ k known g.
        at_same (first + (length xs + k)) (first + n + k) known (omega (arith, e)) (h.each (length xs + k) known (get_suffix xs ys k known g));
  }

  has_tail : (first : ℕ) (x : List ℕ) (xs : List (List ℕ)) → Has first (x ∷ xs) → Has (suc first) xs
  has_tail first x xs h = record { each = λ k known g. at_same (first + suc k) (suc first + k) known (omega arith) (h.each (suc k) known g) }

  has_head : (first : ℕ) (x : List ℕ) (xs : List (List ℕ)) → Has first (x ∷ xs) → known_of first ≡ x
  has_head first x xs h = at_same (first + 0) first x (omega arith) (h.each 0 x refl)

  -- no more is known at the node
  abbrev pub IsWithin : (node : ℕ) → (known : List ℕ) → Type 0
  IsWithin node known = AreAmong (known_of node) known

  within_same : (node : ℕ) (known : List ℕ) → known_of node ≡ known → IsWithin node known
  within_same node known is local h = subst (λ (ks : List ℕ). is_among ks local ≡ true) is h

  -- at a part's entry, which is passed over where it has no nodes
  enters : (known : List ℕ) (xs : List (List ℕ)) (n first next : ℕ) → length xs ≡ n → IsFirst known xs → Has first xs → IsWithin next known →
      IsWithin (entry n first next) known
  enters known [] zero first next e is h w = w
  enters known [] (suc n) first next e is h w = absurd (omega (arith, e))
  enters known (x ∷ xs) zero first next e is h w = absurd (omega (arith, e))
  enters known (x ∷ xs) (suc n) first next e is h w = within_same first known (has_head first x xs h ∙ is)

  -- ---- What a node leads to

  -- at the node no more is known than before, but for what the condition says
  abbrev pub IsWithinSaid : (condition : e.Placed) → (node : ℕ) → (known : List ℕ) → Type 0
  IsWithinSaid condition node known =
      (local : ℕ) → is_among (known_of node) local ≡ true → (is_among known local ≡ true) ⊎ (unnull condition.expr ≡ Some local)

  abbrev pub Leads : Action → (known : List ℕ) → Type 0
  Leads (Eval target value next) known = IsWithin next known × AreFree known (target_assigned target)
  Leads (Store variable kind next) known = IsWithin next known
  Leads (Test condition holds fails) known = IsWithinSaid condition holds known × IsWithin fails known
  Leads (Lock lock next) known = IsWithin next known
  Leads (Unlock lock next) known = IsWithin next known
  Leads End known = Unit {0}

  abbrev pub NodeLeads : Node → (known : List ℕ) → Type 0
  NodeLeads n known = Leads n.action known

  abbrev Agree : List Node → List (List ℕ) → Type 0
  Agree ns ks = AllZip NodeLeads ns ks

  leads_assign : (table : Table) (known : List ℕ) (target : e.Lvalue) (place : Place) (value : e.Placed) (first next : ℕ) →
      Has first (assign_knowns known target) → AreFree known (target_assigned target) → IsWithin next known →
      Agree (assign_nodes table place target value first next) (assign_knowns known target)
  leads_assign table known (e.ToLocal name local kind) place value first next h free w = ((w, free), tt)
  leads_assign table known (e.ToVariable name variable kind) place value first next h free w =
      ((within_same (suc first) known (has_head (suc first) known [] (has_tail first known (known ∷ []) h)), free), (w, tt))
  leads_assign table known (e.ToElement name variable kind index) place value first next h free w =
      ((within_same (suc first) known (has_head (suc first) known [] (has_tail first known (known ∷ []) h)), free), (w, tt))

  mutual
    leads : (table : Table) (known : List ℕ) (y : f.Statement) (first next : ℕ) → Has first (knowns known y) → AreFree known (flat_statement_assigned y) →
        IsWithin next known → Agree (statement_nodes table y first next) (knowns known y)
    leads table known (f.Assign place target value) first next h free w = leads_assign table known target place value first next h free w
    leads table known (f.If place arms otherwise) first next h free w =
        let of_arms = knowns_in_arms known true arms in
        let of_rest = knowns_in_all known otherwise in
        let here = first + arms_count arms in
        let after = has_suffix first (arms_count arms) of_arms of_rest (length-knowns_in_arms known true arms) h in
        let last = enters known of_rest (statements_count otherwise) here next (length-knowns_in_all known otherwise) (first_in_all known otherwise) after w in
        zip_joined NodeLeads (arms_nodes table arms place (entry (statements_count otherwise) here next) first next)
        (statements_nodes table otherwise here next) of_arms of_rest
        (leads_arms table known true arms place (entry (statements_count otherwise) here next) first next (has_prefix first of_arms of_rest h)
        (first_free known (flat_arms_assigned arms) (flat_statements_assigned otherwise) free) last w)
        (leads_all table known otherwise here next after (rest_free known (flat_arms_assigned arms) (flat_statements_assigned otherwise) free) w)
    leads table known (f.While place condition body) first next h free w =
        let of_body = knowns_in_all known body in
        let here = within_same first known (has_head first known of_body h) in
        let inner = has_tail first known of_body h in
        let inside = enters known of_body (statements_count body) (suc first) first (length-knowns_in_all known body) (first_in_all known body) inner here in
        ((λ local among. inl (inside local among), w), leads_all table known body (suc first) first inner free here)
    leads table known (f.Do place body condition) first next h free w =
        let of_body = knowns_in_all known body in
        let test = first + statements_count body in
        let inner = has_prefix first of_body (known ∷ []) h in
        let there = within_same test known (has_head test known []
        (has_suffix first (statements_count body) of_body (known ∷ []) (length-knowns_in_all known body) h)) in
        let begun = enters known of_body (statements_count body) first test (length-knowns_in_all known body) (first_in_all known body) inner there in
        let back = subst (λ (n : ℕ). IsWithin n known) (entry_end (statements_count body) first) begun in
        zip_joined NodeLeads (statements_nodes table body first test) (test_node table place condition first next ∷ []) of_body (known ∷ [])
        (leads_all table known body first test inner free there)
        ((λ local among. inl (back local among), w), tt)
    leads table known (f.Lock place lock) first next h free w = (w, tt)
    leads table known (f.Unlock place lock) first next h free w = (w, tt)

    leads_all : (table : Table) (known : List ℕ) (ys : f.Statements) (first next : ℕ) → Has first (knowns_in_all known ys) →
        AreFree known (flat_statements_assigned ys) → IsWithin next known → Agree (statements_nodes table ys first next) (knowns_in_all known ys)
    leads_all table known f.no_statement first next h free w = tt
    leads_all table known (f.statement_and y more) first next h free w =
        let of_one = knowns known y in
        let of_more = knowns_in_all known more in
        let here = first + count y in
        let after = has_suffix first (count y) of_one of_more (length-knowns known y) h in
        let goes_on = enters known of_more (statements_count more) here next (length-knowns_in_all known more) (first_in_all known more) after w in
        zip_joined NodeLeads (statement_nodes table y first (entry (statements_count more) here next)) (statements_nodes table more here next) of_one of_more
        (leads table known y first (entry (statements_count more) here next) (has_prefix first of_one of_more h)
        (first_free known (flat_statement_assigned y) (flat_statements_assigned more) free) goes_on)
        (leads_all table known more here next after (rest_free known (flat_statement_assigned y) (flat_statements_assigned more) free) w)

    leads_arms : (table : Table) (known : List ℕ) (is_first : Bool) (arms : f.Arms) (place : Place) (last first next : ℕ) →
        Has first (knowns_in_arms known is_first arms) → AreFree known (flat_arms_assigned arms) → IsWithin last known → IsWithin next known →
        Agree (arms_nodes table arms place last first next) (knowns_in_arms known is_first arms)
    leads_arms table known is_first f.no_arm place last first next h free l w = tt
    leads_arms table known is_first (f.arm_and condition body rest) place last first next h free l w =
        let inside = flat_known_in known is_first condition body in
        let of_body = knowns_in_all inside body in
        let of_rest = knowns_in_arms known false rest in
        let more = suc first + statements_count body in
        let inner = has_tail first known (of_body ++ of_rest) h in
        let prefix = has_prefix (suc first) of_body of_rest inner in
        let after = has_suffix (suc first) (statements_count body) of_body of_rest (length-knowns_in_all inside body) inner in
        let body_free = first_free known (flat_statements_assigned body) (flat_arms_assigned rest) free in
        let past : IsWithin next inside = λ local among. more_inside known body is_first condition local (w local among) in
        let held = enters inside of_body (statements_count body) (suc first) next (length-knowns_in_all inside body) (first_in_all inside body) prefix past in
        let failed = enters known of_rest (arms_count rest) more last (length-knowns_in_arms known false rest) (arms_first known false rest) after l in (
          (λ local among. said_inside known body is_first condition local (held local among), failed),
          zip_joined NodeLeads (statements_nodes table body (suc first) next) (arms_nodes table rest place last more next) of_body of_rest
              (leads_all table inside body (suc first) next prefix (free_inside known body is_first condition body_free) past)
              (leads_arms table known false rest place last more next after
              (rest_free known (flat_statements_assigned body) (flat_arms_assigned rest) free) l w),
        )

  -- nothing is known before a thread's body, or at its end
  pub leads_thread : (table : Table) (t : f.Thread) (first : ℕ) → ((k : ℕ) (known : List ℕ) → slice_get (thread_knowns t) k ≡ Some known →
      known_of (first + k) ≡ known) → AllZip NodeLeads (thread_nodes table t first) (thread_knowns t)
  leads_thread table t first each =
      let of_body = knowns_in_all [] t.body in
      let end = first + statements_count t.body in
      let all : Has first (thread_knowns t) = record { each = each } in
      let there = within_same end [] (has_head end [] []
      (has_suffix first (statements_count t.body) of_body ([] ∷ []) (length-knowns_in_all [] t.body) all)) in
      zip_joined NodeLeads (statements_nodes table t.body first end) (plain_node t.closing End ∷ []) of_body ([] ∷ [])
      (leads_all table [] t.body first end (has_prefix first of_body ([] ∷ []) all) (λ local among. absurd (true≢false (sym among))) there) (tt, tt)
