-- What the nodes of a thread may take, with what is paid for the locks that they keep: no more than the thread's price in the language of its log.
use Rattle.std.proofs.Common.{◌≡◌, refl, ℕ, zero, suc, ◌+◌, ◌-◌, ◌≤◌, List, [], ◌∷◌, ◌++◌, length, ◌∙◌, ap, ap₂, sym, subst, arith, Some, true, false}
use Rattle.std.proofs.Common.{slice_set}
use Rattle.std.specs.Prelude.{slice_get, slice_index_or}
use Rattle.std.proofs.lemmas.List.{length-append}
use Rattle.std.proofs.lemmas.List.Sums.{sum_by-cons}
use Rattle.std.proofs.lemmas.Option.{get_or_from_slice_get}
use Rattle.ido_base.specs.declared.place.Place.{Place}
use Rattle.log_schemes.specs.declared.log.Log.{Log}
use Rattle.log_schemes.specs.declared.keeping.Keeping.{Keeping}
use Rattle.log_schemes.specs.declared.keeping.Keeping.TheVariants.{Masked, Listed}
use Rattle.log_schemes.specs.Schemes.{keeping_of}
use Rattle.ido_ints.specs.declared.kinds.Kind.{Kind}
use Rattle.c_tree.specs.Exprs as e
use Rattle.c_tree.specs.Programs.{Variable}
use Rattle.c_tree.specs.Flats as f
use Rattle.c_tree.specs.LockNames.{Held, lock_names, none_held, number_in}
use Rattle.c_tree.specs.LockDiscipline.{Keeps, KeepAll, KeepArms, assign, choose, repeat, again, lock, unlock, no_more, then, no_more_arms, arm}
use Rattle.c_tree.specs.HoldPrices.{arms_hold, full_price, held_price, hold_prices, statement_hold, statements_hold, thread_hold}
use Rattle.c_tree.specs.WellFormed.{HasArm, IsFlatStatement, AreFlatStatements, AreFlatArms}
use Rattle.lock_discipline.specs.HeldSetsByStep.{AreSetsOf, HeldBefore}
use Rattle.lock_discipline.specs.links.Flow.{held_after, held_after_all, sets_in, sets_in_all, sets_in_arms, thread_sets}
use Rattle.lock_discipline.proofs.Public.{boundary_after_is, thread_sets_are}
use Rattle.flow_graph.specs.Nodes.{End, Node}
use Rattle.flow_graph.specs.Lowering.{Table, table_of, count, statements_count, arms_count, entry, statement_nodes, statements_nodes, arms_nodes}
use Rattle.flow_graph.specs.Lowering.{thread_nodes, plain_node, test_node}
use Rattle.flow_graph.proofs.Public.{all_at, found_in, length-arms_nodes, length-statement_nodes, length-statements_nodes}
use Rattle.thread_code.specs.Plans.{Plan, IsPlan, Thread, IsThread, language_kept, language_of, names_in, set_before, words_held}
use Rattle.thread_code.specs.Programs.{names_kept}
use Rattle.thread_code.proofs.Public.{names_are}
use Rattle.rv64_codegen.proofs.LoweredNodes.{price_of, prices, price_thread}
use Rattle.rv64_codegen.proofs.PlannedNodes.{held_there}

-- ---- A set for each node

module _ (names : List e.LockName) where
  mutual
    sets_one : (s : f.Statement) (h : Held) → length (sets_in names h s) ≡ count s
    sets_one (f.Assign place (e.ToLocal spot other kind) value) h = refl
    sets_one (f.Assign place (e.ToVariable spot variable kind) value) h = refl
    sets_one (f.Assign place (e.ToElement spot variable kind index) value) h = refl
    sets_one (f.If place arms otherwise) h = length-append (sets_in_arms names h arms) (sets_in_all names h otherwise)
        ∙ ap₂ ◌+◌ (sets_arms arms h) (sets_all otherwise h)
    sets_one (f.While place condition body) h = ap suc (sets_all body h)
    sets_one (f.Do place body condition) h =
        omega (arith, length-append (sets_in_all names h body) (held_after_all names h body ∷ []), sets_all body h)
    sets_one (f.Lock place other) h = refl
    sets_one (f.Unlock place other) h = refl

    sets_all : (ss : f.Statements) (h : Held) → length (sets_in_all names h ss) ≡ statements_count ss
    sets_all f.no_statement h = refl
    sets_all (f.statement_and x rest) h = length-append (sets_in names h x) (sets_in_all names (held_after names h x) rest)
        ∙ ap₂ ◌+◌ (sets_one x h) (sets_all rest (held_after names h x))

    sets_arms : (arms : f.Arms) (h : Held) → length (sets_in_arms names h arms) ≡ arms_count arms
    sets_arms f.no_arm h = refl
    sets_arms (f.arm_and condition body rest) h =
        ap suc (length-append (sets_in_all names h body) (sets_in_arms names h rest) ∙ ap₂ ◌+◌ (sets_all body h) (sets_arms rest h))

-- ---- What is held costs no more after an unlock

hold_less : (names : List e.LockName) (h : Held) (n : ℕ) → held_price names (slice_set h n false) ≤ held_price names h
hold_less [] h n = omega arith
hold_less (x ∷ names) [] zero = omega arith
hold_less (x ∷ names) [] (suc n) = omega arith
hold_less (x ∷ names) (true ∷ h) zero = omega arith
hold_less (x ∷ names) (false ∷ h) zero = omega arith
hold_less (x ∷ names) (true ∷ h) (suc n) = let more = hold_less names h n in omega (arith, more)
hold_less (x ∷ names) (false ∷ h) (suc n) = hold_less names h n

-- ---- The set after a part is the one by which the price goes on

module _ (x : f.Flat) (ks : List Kind) (vs : List Variable) (names : List e.LockName) where
  mutual
    hold_after : {h after : Held} {s : f.Statement} → Keeps vs names h s after → IsFlatStatement x ks s → (statement_hold names h s).after ≡ after
    hold_after (assign place target value guarded free) g = refl
    hold_after (choose place arms otherwise p q) g = after_arms p g.0 g.1
    hold_after (repeat place condition body guarded p) g = refl
    hold_after (again place body condition p guarded) g = refl
    hold_after (lock place other free) g = refl
    hold_after (unlock place other held) g = refl

    after_all : {h after : Held} {ss : f.Statements} → KeepAll vs names h ss after → AreFlatStatements x ks ss → (statements_hold names h ss).after ≡ after
    after_all no_more g = refl
    after_all (then y rest p q) g = ap (λ (k : Held). (statements_hold names k rest).after) (hold_after p g.0) ∙ after_all q g.1

    after_arms : {h after : Held} {arms : f.Arms} → KeepArms vs names h arms after → HasArm arms → AreFlatArms x ks arms →
        (arms_hold names h arms).after ≡ after
    after_arms no_more_arms some g = absurd some
    after_arms (arm condition body rest guarded p q) some g = after_all p g.1

-- ---- Nodes and sets, from a number on

module _ (p : Plan) (t : Thread) where
  -- what a node may take where the log is this one
  abbrev pub cost_as : Keeping → Node → (node : ℕ) → ℕ
  cost_as keeping n node = price_of n + words_held keeping (names_kept p t n.action node)

  abbrev pub cost_of : Log → Node → (node : ℕ) → ℕ
  cost_of log n node = cost_as (keeping_of log) n node

  abbrev pub costs_as : Keeping → List Node → (first : ℕ) → ℕ
  costs_as keeping [] first = 0
  costs_as keeping (n ∷ ns) first = cost_as keeping n first + costs_as keeping ns (suc first)

  abbrev pub costs : Log → List Node → (first : ℕ) → ℕ
  costs log ns first = costs_as (keeping_of log) ns first

  -- what the locks cost that they keep
  abbrev kept_costs : List Node → (first : ℕ) → ℕ
  kept_costs [] first = 0
  kept_costs (n ∷ ns) first = hold_prices (names_kept p t n.action first) + kept_costs ns (suc first)

  costs_plain : (ns : List Node) (first : ℕ) → costs_as Masked ns first ≡ prices ns
  costs_plain [] first = omega arith
  costs_plain (n ∷ ns) first = omega (arith, sum_by-cons price_of n ns, costs_plain ns (suc first))

  costs_full : (ns : List Node) (first : ℕ) → costs_as Listed ns first ≡ prices ns + kept_costs ns first
  costs_full [] first = omega arith
  costs_full (n ∷ ns) first = omega (arith, sum_by-cons price_of n ns, costs_full ns (suc first))

  kept_append : (ns ms : List Node) (first size : ℕ) → length ns ≡ size → kept_costs (ns ++ ms) first ≡ kept_costs ns first + kept_costs ms (first + size)
  kept_append [] ms first size is =
      let same : first ≡ first + size = omega (arith, is) in
      omega (arith, ap (λ (k : ℕ). kept_costs ms k) same)
  kept_append (n ∷ ns) ms first size is =
      let same : suc first + length ns ≡ first + size = omega (arith, is) in
      omega (arith, kept_append ns ms (suc first) (length ns) refl, ap (λ (k : ℕ). kept_costs ms k) same)

  -- these are the sets before the nodes from this one on
  abbrev AreBefore : List Held → (first : ℕ) → Type 0
  AreBefore [] first = Unit {0}
  AreBefore (h ∷ hs) first = (set_before p t first ≡ h) × AreBefore hs (suc first)

  parted : (hs ks : List Held) (first size : ℕ) → length hs ≡ size → AreBefore (hs ++ ks) first → AreBefore hs first × AreBefore ks (first + size)
  parted [] ks first size is b =
      let same : first ≡ first + size = omega (arith, is) in
      (tt, subst (λ (k : ℕ). AreBefore ks k) same b)
  parted (h ∷ hs) ks first size is b =
      let rest = parted hs ks (suc first) (length hs) refl b.1 in
      let same : suc first + length hs ≡ first + size = omega (arith, is) in
      ((b.0, rest.0), subst (λ (k : ℕ). AreBefore ks k) same rest.1)

  all_before : (hs : List Held) (first : ℕ) → ((k : ℕ) (h : Held) → slice_get hs k ≡ Some h → set_before p t (first + k) ≡ h) → AreBefore hs first
  all_before [] first each = tt
  all_before (h ∷ hs) first each = (
    ap (set_before p t) (let same : first ≡ first + 0 = omega arith in same) ∙ each 0 h refl,
    all_before hs (suc first) (λ k z at. ap (set_before p t) (let same : suc first + k ≡ first + suc k = omega arith in same) ∙ each (suc k) z at),
  )

  entry_both : (h : Held) (a b first next : ℕ) → set_before p t (entry a first (entry b (first + a) next)) ≡ h → set_before p t (entry (a + b) first next) ≡ h
  entry_both h zero b first next is =
      let same : first ≡ first + 0 = omega arith in
      let none : 0 + b ≡ b = omega arith in
      ap (λ (n : ℕ). set_before p t (entry n first next)) none ∙ (ap (λ (n : ℕ). set_before p t (entry b n next)) same ∙ is)
  entry_both h (suc a) b first next is =
      let more : suc a + b ≡ suc (a + b) = omega arith in
      ap (λ (n : ℕ). set_before p t (entry n first next)) more ∙ is

  entry_into : (h : Held) (a first : ℕ) → set_before p t (entry a first (first + a)) ≡ h → set_before p t first ≡ h
  entry_into h zero first is = ap (set_before p t) (let same : first ≡ first + 0 = omega arith in same) ∙ is
  entry_into h (suc a) first is = is

  -- ---- Statements

  abbrev names : List e.LockName
  names = names_in p t

  -- the part begins at a node before which the set is this, and what its nodes keep costs no more than it pays
  abbrev OfOne : Table → Held → f.Statement → (first next : ℕ) → Type 0
  OfOne table h s first next =
      (set_before p t (entry (count s) first next) ≡ h) × (kept_costs (statement_nodes table s first next) first ≤ (statement_hold names h s).price)

  abbrev OfAll : Table → Held → f.Statements → (first next : ℕ) → Type 0
  OfAll table h ss first next =
      (set_before p t (entry (statements_count ss) first next) ≡ h)
      × (kept_costs (statements_nodes table ss first next) first ≤ (statements_hold names h ss).price)

  abbrev OfArms : Table → Held → f.Arms → Place → (last first next : ℕ) → Type 0
  OfArms table h arms place last first next =
      (set_before p t (entry (arms_count arms) first last) ≡ h)
      × (kept_costs (arms_nodes table arms place last first next) first ≤ (arms_hold names h arms).price)

  cost_assign : (table : Table) (place : Place) (target : e.Lvalue) (value : e.Placed) (h : Held) (first next : ℕ) →
      AreBefore (sets_in names h (f.Assign place target value)) first → OfOne table h (f.Assign place target value) first next
  cost_assign table place (e.ToLocal spot other kind) value h first next b =
      let here : held_price names (set_before p t first) ≡ held_price names h = ap (held_price names) b.0 in
      (b.0, omega (arith, here))
  cost_assign table place (e.ToVariable spot variable kind) value h first next b =
      let here : held_price names (set_before p t first) ≡ held_price names h = ap (held_price names) b.0 in
      let store : held_price names (set_before p t (suc first)) ≡ held_price names h = ap (held_price names) b.1.0 in
      (b.0, omega (arith, here, store))
  cost_assign table place (e.ToElement spot variable kind index) value h first next b =
      let here : held_price names (set_before p t first) ≡ held_price names h = ap (held_price names) b.0 in
      let store : held_price names (set_before p t (suc first)) ≡ held_price names h = ap (held_price names) b.1.0 in
      (b.0, omega (arith, here, store))

  module _ (vs : List Variable) (ks : List Kind) (table : Table) where
    mutual
      cost_one : {h after : Held} {s : f.Statement} → Keeps vs names h s after → IsFlatStatement p.flat ks s → (first next : ℕ) →
          AreBefore (sets_in names h s) first → set_before p t next ≡ after → OfOne table h s first next
      cost_one (assign {h = h} place target value guarded free) g first next b after = cost_assign table place target value h first next b
      cost_one (choose {h = h} place arms otherwise q r) g first next b after =
          let further : ℕ = first + arms_count arms in
          let last : ℕ = entry (statements_count otherwise) further next in
          let parts = parted (sets_in_arms names h arms) (sets_in_all names h otherwise) first (arms_count arms) (sets_arms names arms h) b in
          let other : OfAll table h otherwise further next = cost_all r g.2 further next parts.1 after in
          let each : OfArms table h arms place last first next = cost_arms q g.1 place last first next parts.0 other.0 after in
          let both = kept_append (arms_nodes table arms place last first next) (statements_nodes table otherwise further next) first (arms_count arms)
          (length-arms_nodes table arms place last first next) in
          (entry_both h (arms_count arms) (statements_count otherwise) first next each.0, omega (arith, both, each.1, other.1))
      cost_one (repeat {h = h} place condition body guarded q) g first next b after =
          let each : OfAll table h body (suc first) first = cost_all q g.1 (suc first) first b.1 b.0 in
          (b.0, omega (arith, each.1))
      cost_one (again {h = h} place body condition q guarded) g first next b after =
          let further : ℕ = first + statements_count body in
          let parts = parted (sets_in_all names h body) (held_after_all names h body ∷ []) first (statements_count body) (sets_all names body h) b in
          let same : held_after_all names h body ≡ h = boundary_after_is vs names (choose place f.no_arm body no_more_arms q) in
          let test : set_before p t further ≡ h = parts.1.0 ∙ same in
          let each : OfAll table h body first further = cost_all q g.0 first further parts.0 test in
          let both = kept_append (statements_nodes table body first further) (test_node table place condition first next ∷ []) first (statements_count body)
          (length-statements_nodes table body first further) in
          (entry_into h (statements_count body) first each.0, omega (arith, both, each.1))
      cost_one (lock {h = h} place other free) g first next b after =
          let kept : held_price names (set_before p t next) ≡ held_price names (slice_set h (number_in names other) true) = ap (held_price names) after in
          (b.0, omega (arith, kept))
      cost_one (unlock {h = h} place other held) g first next b after =
          let kept : held_price names (set_before p t next) ≡ held_price names (slice_set h (number_in names other) false) = ap (held_price names) after in
          (b.0, omega (arith, kept, hold_less names h (number_in names other)))

      cost_all : {h after : Held} {ss : f.Statements} → KeepAll vs names h ss after → AreFlatStatements p.flat ks ss → (first next : ℕ) →
          AreBefore (sets_in_all names h ss) first → set_before p t next ≡ after → OfAll table h ss first next
      cost_all no_more g first next b after = (after, omega arith)
      cost_all (then {h = h} {between = between} y rest q r) g first next b after =
          let further : ℕ = first + count y in
          let last : ℕ = entry (statements_count rest) further next in
          let parts = parted (sets_in names h y) (sets_in_all names (held_after names h y) rest) first (count y) (sets_one names y h) b in
          let later : AreBefore (sets_in_all names between rest) further =
          subst (λ (k : Held). AreBefore (sets_in_all names k rest) further) (boundary_after_is vs names q) parts.1 in
          let other : OfAll table between rest further next = cost_all r g.1 further next later after in
          let one : OfOne table h y first last = cost_one q g.0 first last parts.0 other.0 in
          let both = kept_append (statement_nodes table y first last) (statements_nodes table rest further next) first (count y)
          (length-statement_nodes table y first last) in
          let goes_on : (statements_hold names (statement_hold names h y).after rest).price ≡ (statements_hold names between rest).price =
          ap (λ (k : Held). (statements_hold names k rest).price) (hold_after p.flat ks vs names q g.0) in
          (entry_both h (count y) (statements_count rest) first next one.0, omega (arith, both, one.1, other.1, goes_on))

      cost_arms : {h after : Held} {arms : f.Arms} → KeepArms vs names h arms after → AreFlatArms p.flat ks arms → (place : Place) (last first next : ℕ) →
          AreBefore (sets_in_arms names h arms) first → set_before p t last ≡ h → set_before p t next ≡ after → OfArms table h arms place last first next
      cost_arms no_more_arms g place last first next b otherwise after = (otherwise, omega arith)
      cost_arms (arm {h = h} condition body rest guarded q r) g place last first next b otherwise after =
          let further : ℕ = suc first + statements_count body in
          let parts = parted (sets_in_all names h body) (sets_in_arms names h rest) (suc first) (statements_count body) (sets_all names body h) b.1 in
          let each : OfAll table h body (suc first) next = cost_all q g.1 (suc first) next parts.0 after in
          let others : OfArms table h rest place last further next = cost_arms r g.2 place last further next parts.1 otherwise after in
          let both = kept_append (statements_nodes table body (suc first) next) (arms_nodes table rest place last further next) (suc first)
          (statements_count body) (length-statements_nodes table body (suc first) next) in
          (b.0, omega (arith, both, each.1, others.1))

  -- ---- Threads

  cost_thread : (text : f.Thread) (table : Table) (vs : List Variable) (ks : List Kind) (first : ℕ) →
      KeepAll vs names (none_held (length names)) text.body (none_held (length names)) → AreFlatStatements p.flat ks text.body →
      AreBefore (thread_sets names text) first → kept_costs (thread_nodes table text first) first ≤ thread_hold names text
  cost_thread text table vs ks first keep g b =
      let none : Held = none_held (length names) in
      let last : ℕ = first + statements_count text.body in
      let parts = parted (sets_in_all names none text.body) (held_after_all names none text.body ∷ []) first (statements_count text.body)
      (sets_all names text.body none) b in
      let same : held_after_all names none text.body ≡ none = boundary_after_is vs names (choose text.closing f.no_arm text.body no_more_arms keep) in
      let all : OfAll table none text.body first last = cost_all vs ks table keep g first last parts.0 (parts.1.0 ∙ same) in
      let both = kept_append (statements_nodes table text.body first last) (plain_node text.closing End ∷ []) first (statements_count text.body)
      (length-statements_nodes table text.body first last) in
      omega (arith, both, all.1)

  module _ (plan : IsPlan p) (th : IsThread p t) where
    table_there : (sets : List Held) × (slice_get p.held t.number ≡ Some sets)
    table_there = found_in p.held t.number (held_there p plan t th)

    sets_are : AreSetsOf p.flat th.text table_there.0
    sets_are = plan.held.sets t.number th.text table_there.0 th.of_text table_there.1

    -- before a node stands the set that the flow has there
    at_step : (k : ℕ) (h : Held) → slice_get (thread_sets (lock_names p.flat th.text) th.text) k ≡ Some h → set_before p t (t.part.first + k) ≡ h
    at_step k h there =
        let before : HeldBefore p.flat th.text k h = ((thread_sets_are p.flat th.text sets_are.disciplined).exactly k h).0 there in
        let in_table : slice_get table_there.0 k ≡ Some h = (sets_are.exactly k h).1 before in
        let step : t.part.first + k - t.part.first ≡ k = omega arith in
        ap (λ (hs : List Held). slice_index_or hs (t.part.first + k - t.part.first) [])
        (get_or_from_slice_get p.held t.number table_there.0 [] table_there.1)
        ∙ (ap (λ (n : ℕ). slice_index_or table_there.0 n []) step ∙ get_or_from_slice_get table_there.0 k h [] in_table)

    its_names : lock_names p.flat th.text ≡ names
    its_names = sym (names_are p t th)

    kept_few : kept_costs (thread_nodes (table_of p.flat th.text) th.text t.part.first) t.part.first ≤ thread_hold names th.text
    kept_few =
        cost_thread th.text (table_of p.flat th.text) p.flat.variables th.text.locals t.part.first
        (subst (λ (ns : List e.LockName). KeepAll p.flat.variables ns (none_held (length ns)) th.text.body (none_held (length ns))) its_names
        sets_are.disciplined)
        (all_at (λ (u : f.Thread). AreFlatStatements p.flat u.locals u.body) p.flat.threads t.number th.text plan.formed.threads th.of_text)
        (all_before (thread_sets names th.text) t.part.first (λ k h there. at_step k h
        (subst (λ (ns : List e.LockName). slice_get (thread_sets ns th.text) k ≡ Some h) (sym its_names) there)))

    costs_few : (k : Keeping) →
        costs_as k (thread_nodes (table_of p.flat th.text) th.text t.part.first) t.part.first ≤ full_price (language_kept k) p.flat th.text
    costs_few Masked =
        let ns : List Node = thread_nodes (table_of p.flat th.text) th.text t.part.first in
        omega (arith, costs_plain ns t.part.first, price_thread (table_of p.flat th.text) th.text t.part.first)
    costs_few Listed =
        let ns : List Node = thread_nodes (table_of p.flat th.text) th.text t.part.first in
        let same : thread_hold names th.text ≡ thread_hold (lock_names p.flat th.text) th.text =
        ap (λ (xs : List e.LockName). thread_hold xs th.text) (names_are p t th) in
        omega (arith, costs_full ns t.part.first, price_thread (table_of p.flat th.text) th.text t.part.first, kept_few, same)

    -- what the thread's nodes may take, whatever the log
    pub thread_costs : costs p.log (thread_nodes (table_of p.flat th.text) th.text t.part.first) t.part.first ≤ full_price (language_of p.log) p.flat th.text
    thread_costs = costs_few (keeping_of p.log)
