-- Where the locals of threads stand in their logs, boundaries stand at just the steps that are logged by themselves.
use Rattle.std.proofs.Common.{◌≡◌, ◌≢◌, inl, inr, refl, ℕ, zero, suc, ◌+◌, ◌<◌, ◌≤◌, List, [], ◌∷◌, map, Bool, true, false, not, ◌&&◌, ◌==◌, if◌then◌else◌}
use Rattle.std.proofs.Common.{slice_get, slice_index_or, Option, Some, None, ap, ap₂, sym, subst, ◌∙◌, arith, is_some}
use Rattle.std.specs.Option.{option_map}
use Rattle.std.proofs.lemmas.Bool.{cases_Bool, eqb-true, true≢false}
use Rattle.std.proofs.lemmas.Option.{none-some, same_Some}
use Rattle.ido_base.specs.Locks.{holds_none}
use Rattle.ido_base.specs.declared.place.Place.{Place}
use Rattle.ido_ints.specs.declared.kinds.Kind.{Kind}
use Rattle.c_tree.specs.Exprs as e
use Rattle.c_tree.specs.Exprs.{LockName, Placed}
use Rattle.c_tree.specs.Flats as f
use Rattle.c_tree.specs.Source as m
use Rattle.c_tree.specs.Source.{Pending, State, is_between, source_step}
use Rattle.c_tree.specs.Values.{lock_number}
use Rattle.log_schemes.specs.Schemes.{locals_of}
use Rattle.log_schemes.specs.declared.locals.Locals.TheVariants.{Frame}
use Rattle.boundary_code.specs.Boundaries.{is_empty}
use Rattle.flow_graph.specs.declared.graph.Part.{Part}
use Rattle.flow_graph.specs.Nodes.{Action, Eval, Store, Test, Lock, Unlock, End, Node, Graph}
use Rattle.flow_graph.specs.IdempotentCuts.{Boundaries, IsUnlock, Writes, unlocks}
use Rattle.flow_graph.specs.Liveness.{NodeAt}
use Rattle.flow_graph.specs.Lowering.{lowered, part, parts, thread_count, threads_nodes}
use Rattle.flow_graph.specs.Lockstep.{Matches, Standing, StepsMatch, threads_standings}
use Rattle.flow_graph.specs.Actions.{FlowState, GraphThread, graph_step}
use Rattle.flow_graph.proofs.Public.{ActionLeads, Good, Stepped, at_nodes, chooses, good_after, lowered_threads, node_shaped, nodes_at, repeats, stepped}
use Rattle.flow_graph.proofs.Public.{steps_lockstep}
use Rattle.thread_code.specs.Plans.{IsLogged, IsNodeOf, Thread, held_names_before}
use Rattle.recovered_threads.specs.RecordDescriptions.{Code, IsOrderly}
use Rattle.recovered_threads.proofs.Public.{none_before, steps_orderly}
use Rattle.region_attempts.specs.GraphStates.{node_of}
use Rattle.region_attempts.proofs.Public.{IsThere, is_there, writing_stores}
use Rattle.crash_simulation.specs.Systems.{System, IsSystem, flat_of, thread_count as threads_of}
use Rattle.crash_simulation.specs.BoundaryPassages.{passages, passages_at, passages_by, passes_boundary}
use Rattle.crash_simulation.proofs.Public.{WritesHere, assigns_there, chosen_writes, stores_there}
use Rattle.fence_counts.specs.LoggedSteps.{is_logged_first, is_logged_next, is_logged_step, steps_logged}

-- ---- Two threads have no node both

parts_begin : (ts : List f.Thread) (first k : ℕ) (own : Part) → slice_get (parts ts first) k ≡ Some own → first ≤ own.first
parts_begin [] first k own there = absurd (none-some own there)
parts_begin (t ∷ ts) first zero own there = let is = ap (λ (q : Part). q.first) (same_Some (part t first) own there) in omega (arith, is)
parts_begin (t ∷ ts) first (suc k) own there = omega (arith, parts_begin ts (first + thread_count t) k own there)

-- the node is one of the part
record LiesIn (own : Part) (node : ℕ) : Type 0 where
  from_first : own.first ≤ node
  below_end : node < own.end

first_alone : (t : f.Thread) (ts : List f.Thread) (first k node : ℕ) (one other : Part) → part t first ≡ one →
    slice_get (parts ts (first + thread_count t)) k ≡ Some other → LiesIn one node → LiesIn other node → ⊥
first_alone t ts first k node one other is there in_one in_other =
    let ends = ap (λ (q : Part). q.end) is in
    omega (arith, ends, parts_begin ts (first + thread_count t) k other there, in_one.below_end, in_other.from_first)

one_owner : (ts : List f.Thread) (first j k node : ℕ) (one other : Part) → slice_get (parts ts first) j ≡ Some one → slice_get (parts ts first) k ≡ Some other →
    LiesIn one node → LiesIn other node → j ≡ k
one_owner [] first j k node one other at_one at_other in_one in_other = absurd (none-some one at_one)
one_owner (t ∷ ts) first zero zero node one other at_one at_other in_one in_other = refl
one_owner (t ∷ ts) first zero (suc k) node one other at_one at_other in_one in_other =
    absurd (first_alone t ts first k node one other (same_Some (part t first) one at_one) at_other in_one in_other)
one_owner (t ∷ ts) first (suc j) zero node one other at_one at_other in_one in_other =
    absurd (first_alone t ts first j node other one (same_Some (part t first) other at_other) at_one in_other in_one)
one_owner (t ∷ ts) first (suc j) (suc k) node one other at_one at_other in_one in_other =
    ap suc (one_owner ts (first + thread_count t) j k node one other at_one at_other in_one in_other)

-- ---- Whether a boundary stands before a node

stood : (xs : List Bool) (k : ℕ) → slice_index_or xs k false ≡ true → slice_get xs k ≡ Some true
stood [] k h = absurd (true≢false (sym h))
stood (x ∷ xs) zero h = ap Some h
stood (x ∷ xs) (suc k) h = stood xs k h

stands_so : (xs : List Bool) (k : ℕ) → slice_get xs k ≡ Some true → slice_index_or xs k false ≡ true
stands_so [] k h = absurd (none-some true h)
stands_so (x ∷ xs) zero h = same_Some x true h
stands_so (x ∷ xs) (suc k) h = stands_so xs k h

-- ---- What is pending and what is left at a node

-- an action that takes no lock, gives none back, and writes nothing, a local neither
abbrev is_plain : Action → Bool
is_plain (Eval (e.ToLocal place local kind) value next) = false
is_plain (Eval (e.ToVariable place variable kind) value next) = true
is_plain (Eval (e.ToElement place variable kind index) value next) = true
is_plain (Store variable kind next) = false
is_plain (Test condition holds fails) = true
is_plain (Lock lock next) = false
is_plain (Unlock lock next) = false
is_plain End = true

owing_none : (left more : List f.Statement) → (let s : Standing = record { left = left; owes = true } in
    let t : Standing = record { left = more; owes = false } in s ≡ t) → ⊥
owing_none left more is = true≢false (ap (λ (z : Standing). z.owes) is)

free_some : (left more : List f.Statement) → (let s : Standing = record { left = left; owes = false } in
    let t : Standing = record { left = more; owes = true } in s ≡ t) → ⊥
free_some left more is = true≢false (sym (ap (λ (z : Standing). z.owes) is))

-- a thread with so much left and this store pending
abbrev next_logged : (holds : Bool) → Option Pending → List f.Statement → Bool
next_logged holds pending left = elim pending [
  | Some store ↦ true
  | None ↦ is_logged_first holds left
]

-- where nothing is pending, by the statement at the front
by_first : (holds : Bool) (pending : Option Pending) (left more : List f.Statement) →
    (let s : Standing = record { left = left; owes = is_some pending } in let t : Standing = record { left = more; owes = false } in s ≡ t) →
    next_logged holds pending left ≡ is_logged_first holds more
by_first holds None left more is = ap (λ (z : Standing). is_logged_first holds z.left) is
by_first holds (Some store) left more is = absurd (owing_none left more is)

by_store : (holds : Bool) (pending : Option Pending) (left more : List f.Statement) →
    (let s : Standing = record { left = left; owes = is_some pending } in let t : Standing = record { left = more; owes = true } in s ≡ t) →
    next_logged holds pending left ≡ true
by_store holds (Some store) left more is = refl
by_store holds None left more is = absurd (free_some left more is)

module _ (y : System) (s : IsSystem y) (frame : locals_of y.plan.log ≡ Frame) (h : ℕ) (below : h < threads_of y) where
  abbrev G : Graph
  G = lowered (flat_of y)

  abbrev B : Boundaries
  B = y.plan.boundaries

  abbrev code : Code y.plan
  code = s.codes.each h below

  open code.thread use {number as n}

  abbrev stands : ℕ → Bool
  stands node = slice_index_or B.before node false

  module _ (a : FlowState) (state : State) (matches : Matches (flat_of y) a state) (orderly : IsOrderly y.plan a) (good : Good (flat_of y) a)
      (graph_thread : GraphThread) (there : slice_get a.graph_threads n ≡ Some graph_thread) (node : Node) (at : NodeAt G graph_thread.at node) where
    abbrev holds : Bool
    holds = not (is_between state n)

    at_plan : NodeAt y.plan.graph graph_thread.at node
    at_plan = subst (λ (g : Graph). NodeAt g graph_thread.at node) (sym s.plan.lowered) at

    part_of : (t : Thread) → slice_get y.plan.graph.threads t.number ≡ Some t.part → slice_get (parts (flat_of y).threads 0) t.number ≡ Some t.part
    part_of t of =
        ap (λ (ps : List Part). slice_get ps t.number) (sym (ap (λ (g : Graph). g.threads) s.plan.lowered ∙ lowered_threads (flat_of y))) ∙ of

    own : IsNodeOf code.thread graph_thread.at
    own =
        let o = good.own n graph_thread there in
        let same : o.part ≡ code.thread.part =
        same_Some o.part code.thread.part (sym (ap (λ (ps : List Part). slice_get ps n) (sym (lowered_threads (flat_of y))) ∙ o.of_thread)
        ∙ part_of code.thread code.of.nodes) in
        record {
          from_first = subst (λ (q : Part). q.first ≤ graph_thread.at) same o.from_first;
          below_end = subst (λ (q : Part). graph_thread.at < q.end) same o.below_end;
        }

    -- a thread that has the node has the same names there
    same_names : (t : Thread) → slice_get y.plan.graph.threads t.number ≡ Some t.part → IsNodeOf t graph_thread.at →
        held_names_before y.plan t graph_thread.at ≡ held_names_before y.plan code.thread graph_thread.at
    same_names t of its =
        let number : t.number ≡ n =
        one_owner (flat_of y).threads 0 t.number n graph_thread.at t.part code.thread.part (part_of t of) (part_of code.thread code.of.nodes)
        (record { from_first = its.from_first; below_end = its.below_end }) (record { from_first = own.from_first; below_end = own.below_end }) in
        let same : t.part ≡ code.thread.part =
        same_Some t.part code.thread.part (sym of ∙ (ap (slice_get y.plan.graph.threads) number ∙ code.of.nodes)) in
        λ i. held_names_before y.plan (record t { number = number i; part = same i }) graph_thread.at

    -- ---- No boundary stands before what isn't written

    plain : is_plain node.action ≡ true → stands graph_thread.at ≡ false
    plain so = elim (cases_Bool (stands graph_thread.at)) [
      | inl is ↦
          absurd (none (chosen_writes y s graph_thread.at node at_plan
          (record { stands = stood B.before graph_thread.at is; free = no_unlock })))
      | inr is ↦ is
    ]
      where
        none : WritesHere node.action → ⊥
        none (stores_there t) = true≢false (sym so ∙ ap is_plain t.is)
        none (assigns_there t) = true≢false (sym so ∙ ap is_plain t.is)

        no_unlock : IsUnlock y.plan.graph graph_thread.at → ⊥
        no_unlock (unlocks x lock next here action) =
            true≢false (sym so ∙ ap is_plain (ap (λ (z : Node). z.action) (same_Some node x (sym at_plan ∙ here)) ∙ action))

    -- ---- One stands before a store

    stored_there : (store : Pending) → graph_thread.pending ≡ Some store → stands graph_thread.at ≡ true
    stored_there store owed =
        let o = good.owes n code.of.text graph_thread store there code.of.of_text owed in
        let here : NodeAt y.plan.graph graph_thread.at o.node =
        subst (λ (g : Graph). NodeAt g graph_thread.at o.node) (sym s.plan.lowered) (at_nodes (flat_of y) graph_thread.at o.node o.here) in
        stands_so B.before graph_thread.at
        (s.plan.at_writes.stores frame graph_thread.at (record { is = o.node; at = here; written = o.lies.location; writes = o.lies.of }))

    -- ---- And before an assignment of a local where a lock is held

    holds_is : (names : List LockName) → held_names_before y.plan code.thread graph_thread.at ≡ names →
        holds ≡ not (is_empty (map (lock_number graph_thread.locals) names))
    holds_is names is =
        ap not (ap (λ (hs : List (Option ℕ)). holds_none hs n) (sym matches.holders)
        ∙ (none_before y.plan a s.plan orderly code.thread code.of graph_thread there own
        ∙ ap (λ (ls : List LockName). is_empty (map (lock_number graph_thread.locals) ls)) is))

    assigned_there : (place : Place) (local : ℕ) (kind : Kind) (value : Placed) (next : ℕ) → node.action ≡ Eval (e.ToLocal place local kind) value next →
        stands graph_thread.at ≡ holds
    assigned_there place local kind value next is = by (held_names_before y.plan code.thread graph_thread.at) refl
      where
        logged : held_names_before y.plan code.thread graph_thread.at ≢ [] → IsLogged y.plan code.thread graph_thread.at
        logged some = record {
          local = local;
          assigns = record { is = node; at = at_plan; place = place; kind = kind; assigned = value; next = next; action = is };
          frame = frame;
          holds = some;
        }

        no_unlock : IsUnlock y.plan.graph graph_thread.at → ⊥
        no_unlock (unlocks x lock to here action) =
            let both = sym is ∙ (ap (λ (z : Node). z.action) (same_Some node x (sym at_plan ∙ here)) ∙ action) in cc

        no_write : Writes y.plan.graph graph_thread.at → ⊥
        no_write w =
            let same : w.is ≡ node = same_Some w.is node (sym w.at ∙ at_plan) in
            let stores = writing_stores (threads_nodes (flat_of y) (flat_of y).threads 0) node node.action w.written
            (node_shaped (flat_of y) graph_thread.at node (nodes_at (flat_of y) graph_thread.at node at))
            (ap (λ (z : Node). z.writes) (sym same) ∙ w.writes) in
            let both = sym is ∙ stores.is in cc

        unheld : held_names_before y.plan code.thread graph_thread.at ≡ [] → stands graph_thread.at ≡ true → ⊥
        unheld none chosen = elim (s.plan.at_writes.before graph_thread.at (stood B.before graph_thread.at chosen)) [
          | inl u ↦ no_unlock u
          | inr (inl writes) ↦ no_write writes
          | inr (inr z) ↦ z.logged.holds (same_names z.thread z.of.nodes z.own ∙ none)
        ]

        by : (names : List LockName) → held_names_before y.plan code.thread graph_thread.at ≡ names → stands graph_thread.at ≡ holds
        by [] none = elim (cases_Bool (stands graph_thread.at)) [
          | inl chosen ↦ absurd (unheld none chosen)
          | inr free ↦ free ∙ sym (holds_is [] none)
        ]
        by (name ∷ names) some =
            stands_so B.before graph_thread.at (s.plan.at_writes.assignments graph_thread.at
            (record { thread = code.thread; of = code.of; own = own; logged = logged (λ none. let both = sym some ∙ none in cc) }))
            ∙ sym (holds_is (name ∷ names) some)

    -- ---- A step

    abbrev th : IsThere (flat_of y) state n graph_thread node
    th = is_there (flat_of y) s.plan.formed n a state matches graph_thread node there at

    by_action : (action : Action) → node.action ≡ action → (pending : Option Pending) → th.thread.pending ≡ pending →
        ActionLeads (threads_standings (flat_of y).threads) action (record { left = th.thread.left; owes = is_some pending }) →
        passes_boundary action (stands graph_thread.at) ≡ next_logged holds pending th.thread.left
    by_action (Eval (e.ToLocal place local kind) value next) is pending owes d =
        assigned_there place local kind value next is ∙ sym (by_first holds pending th.thread.left _ d.is)
    by_action (Eval (e.ToVariable place variable kind) value next) is pending owes d =
        plain (ap is_plain is) ∙ sym (by_first holds pending th.thread.left _ d.is)
    by_action (Eval (e.ToElement place variable kind index) value next) is pending owes d =
        plain (ap is_plain is) ∙ sym (by_first holds pending th.thread.left _ d.is)
    by_action (Store variable kind next) is (Some store) owes d = stored_there store (th.match.pending ∙ owes)
    by_action (Store variable kind next) is None owes d = absurd (free_some th.thread.left d.rest d.is)
    by_action (Test condition first second) is pending owes d = elim d [
      | chooses place body arms otherwise rest same one other ↦ plain (ap is_plain is) ∙ sym (by_first holds pending th.thread.left _ same)
      | repeats place body rest same one other ↦ plain (ap is_plain is) ∙ sym (by_first holds pending th.thread.left _ same)
    ]
    by_action (Lock lock next) is pending owes d = sym (by_first holds pending th.thread.left _ d.is)
    by_action (Unlock lock next) is pending owes d = sym (by_first holds pending th.thread.left _ d.is)
    by_action End is pending owes d = plain (ap is_plain is) ∙ sym (by_first holds pending th.thread.left [] d)

    logged_there : passes_boundary node.action (stands graph_thread.at) ≡ is_logged_step state n
    logged_there =
        by_action node.action refl th.thread.pending refl th.does
        ∙ sym (ap (λ (o : Option m.Thread). let r : Bool = elim o [ Some found ↦ is_logged_next holds found | None ↦ false ] in r) th.there)

  -- ---- Along a schedule

  -- in a state of the graph, and one of the source that it matches
  record IsMatched (a : FlowState) (state : State) : Type 0 where
    matches : Matches (flat_of y) a state
    orderly : IsOrderly y.plan a
    good : Good (flat_of y) a

  own_step : (a next : FlowState) (state : State) → IsMatched a state → graph_step G a h ≡ Some next →
      passages_at G B (node_of a h) ≡ (if is_logged_step state h then 1 else 0)
  own_step a next state both step =
      subst (λ (k : ℕ). passages_at G B (node_of a k) ≡ (if is_logged_step state k then 1 else 0)) (s.codes.number h below) by
    where
      st : Stepped G a next n
      st = stepped G a next n (subst (λ (k : ℕ). graph_step G a k ≡ Some next) (sym (s.codes.number h below)) step)

      by : passages_at G B (node_of a n) ≡ (if is_logged_step state n then 1 else 0)
      by =
          ap (passages_at G B) (ap (option_map (λ (z : GraphThread). z.at)) st.found)
          ∙ (ap (passages_by (stands st.graph_thread.at)) st.at
          ∙ ap (λ (passes : Bool). if passes then 1 else 0)
          (logged_there a state both.matches both.orderly both.good st.graph_thread st.found st.node st.at))

  one_step : (a next : FlowState) (state : State) (t : ℕ) → IsMatched a state → graph_step G a t ≡ Some next →
      (if t == h then passages_at G B (node_of a h) else 0) ≡ (if t == h && is_logged_step state h then 1 else 0)
  one_step a next state t both step = by (t == h) refl
    where
      by : (own : Bool) → (t == h) ≡ own →
          (if own then passages_at G B (node_of a h) else 0) ≡ (if own && is_logged_step state h then 1 else 0)
      by true is = own_step a next state both (subst (λ (k : ℕ). graph_step G a k ≡ Some next) (eqb-true t h is) step)
      by false is = refl

  matched_next : (a next : FlowState) (state after : State) (t : ℕ) → IsMatched a state → graph_step G a t ≡ Some next → Matches (flat_of y) next after →
      IsMatched next after
  matched_next a next state after t both step matches = record {
    matches = matches;
    orderly =
        steps_orderly y.plan a next t s.plan both.orderly (subst (λ (g : Graph). graph_step g a t ≡ Some next) (sym s.plan.lowered) step);
    good =
        subst (Good (flat_of y)) (ap (λ (o : Option FlowState). let r : FlowState = elim o [ None ↦ a | Some z ↦ z ] in r) step)
        (good_after (flat_of y) (t ∷ []) s.plan.formed a both.good);
  }

  abbrev graph_counts : FlowState → (t : ℕ) → List ℕ → Option FlowState → ℕ
  graph_counts a t ts o = elim o [
    | None ↦ 0
    | Some next ↦ (if t == h then passages_at G B (node_of a h) else 0) + passages G B next ts h
  ]

  abbrev source_counts : State → (t : ℕ) → List ℕ → Option State → ℕ
  source_counts state t ts o = elim o [
    | None ↦ 0
    | Some next ↦ (if t == h && is_logged_step state h then 1 else 0) + steps_logged next ts h
  ]

  counted_by : (t : ℕ) (ts : List ℕ) (a : FlowState) (state : State) → IsMatched a state → (o : Option FlowState) → graph_step G a t ≡ o →
      (p : Option State) → StepsMatch (flat_of y) o p →
      ((next : FlowState) (after : State) → IsMatched next after → passages G B next ts h ≡ steps_logged after ts h) →
      graph_counts a t ts o ≡ source_counts state t ts p
  counted_by t ts a state both None step None match later = refl
  counted_by t ts a state both None step (Some after) match later = absurd match
  counted_by t ts a state both (Some next) step None match later = absurd match
  counted_by t ts a state both (Some next) step (Some after) match later =
      ap₂ ◌+◌ (one_step a next state t both step) (later next after (matched_next a next state after t both step match))

  along : (ts : List ℕ) (a : FlowState) (state : State) → IsMatched a state → passages G B a ts h ≡ steps_logged state ts h
  along [] a state both = refl
  along (t ∷ ts) a state both =
      counted_by t ts a state both (graph_step G a t) refl (source_step state t) (steps_lockstep (flat_of y) a state t s.plan.formed both.matches) (along ts)

  -- the boundaries that the thread passes are its steps that are logged by themselves
  pub passages_are_logged : (ts : List ℕ) (a : FlowState) (state : State) → Matches (flat_of y) a state → IsOrderly y.plan a → Good (flat_of y) a →
      passages G B a ts h ≡ steps_logged state ts h
  passages_are_logged ts a state matches orderly good = along ts a state (record { matches = matches; orderly = orderly; good = good })
