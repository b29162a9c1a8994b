-- What a thread of a plan holds at its nodes, and that something is held where it may be resumed.
use Rattle.std.proofs.Common.{◌≡◌, ◌≢◌, inl, inr, refl, ℕ, ◌-◌, ◌<◌, ◌≤◌, List, [], ◌∷◌, length, ap, sym, ◌∙◌, subst, arith, Some, None}
use Rattle.std.proofs.Common.{true, false}
use Rattle.std.specs.Prelude.{slice_get, slice_index_or, Contains}
use Rattle.std.specs.List.{AllByRecursion}
use Rattle.std.proofs.lemmas.Bool.{true≢false}
use Rattle.std.proofs.lemmas.List.{get_or-set_same}
use Rattle.std.proofs.lemmas.Option.{same_Some, slice_get_within, get_or_from_slice_get}
use Rattle.ido_base.specs.Locks.{has_lock}
use Rattle.ido_base.specs.declared.location.Location.{Location}
use Rattle.ido_ints.specs.declared.kinds.Kind.{Kind}
use Rattle.c_tree.specs.Exprs as e
use Rattle.c_tree.specs.Flats as f
use Rattle.c_tree.specs.LockNames.{Held, holds, none_held, lock_names, number_in}
use Rattle.c_tree.specs.LockDiscipline.{guard_name}
use Rattle.c_tree.specs.NullReferences.{is_among}
use Rattle.c_tree.specs.References.{IsFlatStatementReferring, IsFlatThreadReferring}
use Rattle.c_tree.specs.WellFormed.{AreFlatStatements}
use Rattle.c_ranges.specs.KnownAtSteps.{thread_knowns}
use Rattle.c_ranges.specs.RunInvariants.{IsStatementLeft}
use Rattle.source_machine.specs.Discipline.{KeepList, KeepsLeft}
use Rattle.source_machine.proofs.Public.{keeps_assign, keeps_lock, set_is_one}
use Rattle.lock_discipline.specs.HeldSetsByStep.{AreSetsOf, HeldBefore}
use Rattle.lock_discipline.specs.links.Flow.{thread_sets}
use Rattle.lock_discipline.proofs.Public.{held_length, set_left, thread_sets_are}
use Rattle.flow_graph.specs.IdempotentCuts.{IsChosen, IsStoreNode}
use Rattle.flow_graph.specs.Liveness.{NodeAt}
use Rattle.flow_graph.specs.Lockstep.{IsOwnNode, Standing, free, thread_standings, threads_standings}
use Rattle.flow_graph.specs.Lowering.{lowered, threads_nodes}
use Rattle.flow_graph.specs.Nodes.{Action, Eval, Store, Test, Lock, Unlock, End, Graph, Node, successors}
use Rattle.flow_graph.specs.declared.graph.Part.{Part}
use Rattle.flow_graph.proofs.Public.{ActionLeads, At, Locks, ShapedAs, agrees, all_at, found_in, node_shaped, nodes_at, own_next}
use Rattle.known_references.proofs.Public.{assigned_leads}
use Rattle.region_attempts.specs.KnownReferences.{known_at}
use Rattle.thread_code.specs.Plans.{Assigns, IsLogged, Plan, Thread, IsThread, IsPlan, IsNodeOf, held_names_before, locks_held, names_in, set_before}
use Rattle.thread_code.proofs.Public.{has_held, names_are, nothing_held}
use Rattle.recovered_threads.specs.RecordDescriptions.{Code, NodePlace, ResumesAt, at_chosen, past_lock, past_unlock, the_core, the_entry}
use Rattle.recovered_threads.proofs.Public.{free_after_lock as stores_none_after_lock, free_after_unlock as stores_none_after_unlock, left_at, standing_at}
use Rattle.flat_compile.proofs.Public.{node_there}
use Rattle.image_runs.proofs.LeftKnowns.{IsLeftBy, StandsBy, are_known}
use Rattle.image_runs.proofs.LeftReferences.{are_right}
use Rattle.image_runs.proofs.LeftStatements.{are_left}
use Rattle.log_states.proofs.Public.{contains_first}
use Rattle.compiler_correctness.proofs.Public.{logs_it}
use Rattle.image_checks.proofs.Public.{guarded_store, part_is, zip_there}

-- ---- At a node

module _ (p : Plan) (plan : IsPlan p) (t : Thread) (of : IsThread p t) where
  abbrev pub all : List Standing
  all = threads_standings p.flat.threads

  pub table : (table : List Held) × (slice_get p.held t.number ≡ Some table)
  table = found_in p.held t.number (let l = slice_get_within p.flat.threads t.number of.text of.of_text in omega (arith, l, plan.held.each_thread))

  pub sets : AreSetsOf p.flat of.text table.0
  sets = plan.held.sets t.number of.text table.0 of.of_text table.1

  -- the names of its locks
  abbrev pub names : List e.LockName
  names = lock_names p.flat of.text

  module _ (node : ℕ) (own : IsNodeOf t node) where
    abbrev step : ℕ
    step = node - t.part.first

    pub node_is : (is : Node) × NodeAt p.graph node is
    node_is = node_there p plan t of node own

    pub lowered_is : NodeAt (lowered p.flat) node node_is.0
    lowered_is = subst (λ (g : Graph). NodeAt g node node_is.0) plan.lowered node_is.1

    -- what is left there
    pub stands : (s : Standing) × (At all node s) × ActionLeads all node_is.0.action s
    stands = zip_there (λ (n : Node) (s : Standing). ActionLeads all n.action s) (threads_nodes p.flat p.flat.threads 0) all node node_is.0
        (agrees p.flat plan.formed.threads) (nodes_at p.flat node node_is.0 lowered_is)

    own_standing : slice_get (thread_standings of.text) step ≡ Some stands.0
    own_standing =
        sym (standing_at p.flat t.number t.part of.text node (part_is p plan t of) of.of_text own.from_first own.below_end) ∙ stands.1

    kept : (h : Held) × (slice_get (thread_sets names of.text) step ≡ Some h) ×
        KeepList p.flat.variables names h stands.0.left (none_held (length names))
    kept = set_left p.flat of.text step stands.0.left sets.disciplined (left_at of.text step stands.0 own_standing)

    before : HeldBefore p.flat of.text step kept.0
    before = ((thread_sets_are p.flat of.text sets.disciplined).exactly step kept.0).0 kept.1

    in_table : slice_get table.0 step ≡ Some kept.0
    in_table = (sets.exactly step kept.0).1 before

    set_is : set_before p t node ≡ kept.0
    set_is =
        ap (λ (hs : List Held). slice_index_or hs step []) (get_or_from_slice_get p.held t.number table.0 [] table.1)
        ∙ get_or_from_slice_get table.0 step kept.0 [] in_table

    -- from the set before the node what is left keeps the discipline
    pub keeps : KeepsLeft p.flat names (set_before p t node) stands.0.left
    keeps = subst (λ (h : Held). KeepsLeft p.flat names h stands.0.left) (sym set_is) kept.2

    -- a set is as long as the thread's names
    pub long : length (set_before p t node) ≡ length names
    long = ap (λ (h : Held). length h) set_is ∙ held_length p.flat of.text step kept.0 before

    pub left_is : AllByRecursion (IsStatementLeft p.flat of.text.locals) stands.0.left
    left_is =
        are_left p.flat of.text step stands.0
        (all_at (λ (u : f.Thread). AreFlatStatements p.flat u.locals u.body) p.flat.threads t.number of.text plan.formed.threads of.of_text) own_standing

    pub left_refers : AllByRecursion (IsFlatStatementReferring p.flat of.text.refers) stands.0.left
    left_refers =
        are_right p.flat of.text step stands.0
        (all_at (IsFlatThreadReferring p.flat) p.flat.threads t.number of.text plan.formed.referring.threads of.of_text).body own_standing

    known_there : (known : List ℕ) × (slice_get (thread_knowns of.text) step ≡ Some known) × IsLeftBy known stands.0.left
    known_there =
        zip_there StandsBy (thread_standings of.text) (thread_knowns of.text) step stands.0
        (are_known of.text (all_at (IsFlatThreadReferring p.flat) p.flat.threads t.number of.text plan.formed.referring.threads of.of_text).never_null)
        own_standing

    -- by what is known before the node
    pub left_known : IsLeftBy (known_at of.text t.part.first node) stands.0.left
    left_known =
        subst (λ (known : List ℕ). IsLeftBy known stands.0.left)
        (sym (get_or_from_slice_get (thread_knowns of.text) step known_there.0 [] known_there.1)) known_there.2

    -- where it owes no store, it writes none
    pub free_writes_none : stands.0.owes ≡ false → node_is.0.writes ≡ None
    free_writes_none free = by node_is.0.action refl stands.2
      where
        here : slice_get (threads_nodes p.flat p.flat.threads 0) node ≡ Some node_is.0
        here = nodes_at p.flat node node_is.0 lowered_is

        shaped : (a : Action) → node_is.0.action ≡ a → ShapedAs (threads_nodes p.flat p.flat.threads 0) node_is.0 a
        shaped a does = subst (λ (z : Action). ShapedAs (threads_nodes p.flat p.flat.threads 0) node_is.0 z) does (node_shaped p.flat node node_is.0 here)

        by : (a : Action) → node_is.0.action ≡ a → ActionLeads all a stands.0 → node_is.0.writes ≡ None
        by (Eval target value next) does leads = (shaped (Eval target value next) does).1.writes
        by (Store variable kind next) does leads = absurd (true≢false (sym (ap (λ (s : Standing). s.owes) leads.is) ∙ free))
        by (Test condition to other) does leads = (shaped (Test condition to other) does).1.writes
        by (Lock lock next) does leads = (shaped (Lock lock next) does).1
        by (Unlock lock next) does leads = (shaped (Unlock lock next) does).1
        by End does leads = (shaped End does).1

    -- where it writes an element, the lock that guards that is held
    pub locked_here : (location : Location) → node_is.0.writes ≡ Some location → (name : ℕ) × (holds (set_before p t node) name ≡ true)
    locked_here location writes =
        let g = guarded_store p plan t of node own node_is.0 location node_is.1 writes in
        (number_in names (guard_name p.flat.variables g.used), g.locked)

  -- ---- After an assignment of a local

  module _ (from : ℕ) (own_from : IsNodeOf t from) (local : ℕ) (assigns : Assigns p from local) where
    abbrev next : ℕ
    next = assigns.next

    abbrev assigning : Action
    assigning = Eval (e.ToLocal assigns.place local assigns.kind) assigns.assigned next

    does : (node_is from own_from).0.action ≡ assigning
    does = ap (λ (n : Node). n.action) (same_Some _ assigns.is (sym (node_is from own_from).1 ∙ assigns.at)) ∙ assigns.action

    pub on : ActionLeads all assigning (stands from own_from).0
    on = subst (λ (a : Action). ActionLeads all a (stands from own_from).0) does (stands from own_from).2

    threads_at : slice_get (lowered p.flat).threads t.number ≡ Some t.part
    threads_at = subst (λ (g : Graph). slice_get g.threads t.number ≡ Some t.part) plan.lowered of.nodes

    at_own : IsOwnNode p.flat t.number from
    at_own = record { part = t.part; of_thread = threads_at; from_first = own_from.from_first; below_end = own_from.below_end }

    pub own_after : IsNodeOf t next
    own_after =
        let to = own_next p.flat t.number from next (node_is from own_from).0 at_own (lowered_is from own_from)
        (subst (λ (a : Action). Contains (successors a) next) (sym does) (contains_first next [])) in
        let same : to.part ≡ t.part = same_Some to.part t.part (sym to.of_thread ∙ threads_at) in
        record {
          from_first = subst (λ (q : Part). q.first ≤ next) same to.from_first;
          below_end = subst (λ (q : Part). next < q.end) same to.below_end;
        }

    -- no store is pending after it
    pub free_after_assign : (stands next own_after).0 ≡ free on.rest
    free_after_assign = same_Some _ _ (sym (stands next own_after).1 ∙ on.follows)

    keeps_here : KeepsLeft p.flat names (set_before p t from) (f.Assign on.place (e.ToLocal assigns.place local assigns.kind) assigns.assigned ∷ on.rest)
    keeps_here = subst (λ (s : Standing). KeepsLeft p.flat names (set_before p t from) s.left) on.is (keeps from own_from)

    -- the same names are held
    pub set_after_assign : set_before p t next ≡ set_before p t from
    set_after_assign =
        let here : KeepsLeft p.flat names (set_before p t next) on.rest =
        subst (λ (s : Standing). KeepsLeft p.flat names (set_before p t next) s.left) free_after_assign (keeps next own_after) in
        let between : keeps_here.0 ≡ set_before p t next =
        set_is_one p.flat.variables names on.rest keeps_here.0 (set_before p t next) (none_held (length names)) keeps_here.2 here in
        sym between ∙ (keeps_assign p.flat.variables names keeps_here.1).1

    pub kind_of_assigned : slice_get t.kinds local ≡ Some assigns.kind
    kind_of_assigned =
        let left = subst (λ (s : Standing). AllByRecursion (IsStatementLeft p.flat of.text.locals) s.left) on.is (left_is from own_from) in
        ap (λ (ks : List Kind). slice_get ks local) of.kinds ∙ left.0.1.0.0

    -- no more is known after it, and nothing of the local
    pub known_after_assign : (other : ℕ) → is_among (known_at of.text t.part.first next) other ≡ true →
        (is_among (known_at of.text t.part.first from) other ≡ true) × (other ≢ local)
    known_after_assign other among =
        assigned_leads p.flat t.number from of.text t.part (node_is from own_from).0 of.of_text threads_at at_own (lowered_is from own_from)
        assigns.place local assigns.kind assigns.assigned next does other among

  -- ---- After a lock

  module _ (from : ℕ) (lock : e.LockName) (node : ℕ) (is : Node) (own_from : IsNodeOf t from) (own : IsNodeOf t node) (at : NodeAt p.graph from is)
      (locks : is.action ≡ Lock lock node) where
    pub leads : Locks all lock node (stands from own_from).0
    leads =
        let same : (node_is from own_from).0 ≡ is = same_Some _ is (sym (node_is from own_from).1 ∙ at) in
        subst (λ (a : Action). ActionLeads all a (stands from own_from).0) (ap (λ (n : Node). n.action) same ∙ locks) (stands from own_from).2

    -- no store is pending after it
    pub free_after_lock : (stands node own).0 ≡ free leads.rest
    free_after_lock = same_Some _ _ (sym (stands node own).1 ∙ leads.follows)

    keeps_from : KeepsLeft p.flat names (set_before p t from) (f.Lock leads.place lock ∷ leads.rest)
    keeps_from = subst (λ (s : Standing). KeepsLeft p.flat names (set_before p t from) s.left) leads.is (keeps from own_from)

    -- the set after it has its name
    pub held_after_lock : holds (set_before p t node) (number_in names lock) ≡ true
    held_after_lock =
        let n = number_in names lock in
        let here : KeepsLeft p.flat names (set_before p t node) leads.rest =
        subst (λ (s : Standing). KeepsLeft p.flat names (set_before p t node) s.left) free_after_lock (keeps node own) in
        let between : keeps_from.0 ≡ set_before p t node =
        set_is_one p.flat.variables names leads.rest keeps_from.0 (set_before p t node) (none_held (length names)) keeps_from.2 here in
        let taken = keeps_lock p.flat.variables names keeps_from.1 in
        let inside : n < length (set_before p t from) = slice_get_within (set_before p t from) n false taken.0 in
        ap (λ (h : Held). holds h n) (sym between ∙ taken.1) ∙ get_or-set_same (set_before p t from) n true false inside

-- ---- Where a thread may be resumed

some_locks : (held : Held) (lock : ℕ) → holds held lock ≡ true → locks_held held ≢ []
some_locks held lock h none = true≢false (sym h ∙ (sym (has_held held lock) ∙ ap (λ (ls : List ℕ). has_lock ls lock) none))

module _ (p : Plan) (plan : IsPlan p) (code : Code p) where
  abbrev t : Thread
  t = code.thread

  some_names : (node : ℕ) → IsNodeOf code.thread node → locks_held (set_before p t node) ≢ [] → held_names_before p t node ≢ []
  some_names node own some none =
      some (nothing_held 0 (names_in p t) (set_before p t node)
      (long p plan t code.of node own ∙ ap (λ (ns : List e.LockName). length ns) (sym (names_are p t code.of))) none)

  -- what comes past a boundary that stands by choice
  pub data IsWrite (node : ℕ) : Type 0 where
    of_element : (is : Node) (location : Location) → NodeAt p.graph node is → is.writes ≡ Some location → IsWrite node
    of_local : IsLogged p t node → IsWrite node

  pub chosen_write : (node : ℕ) → IsNodeOf code.thread node → IsChosen p.graph p.boundaries node → IsWrite node
  chosen_write node own chosen = elim (plan.at_writes.before node chosen.stands) [
    | inl gives ↦ absurd (chosen.free gives)
    | inr (inl writes) ↦ of_element writes.is writes.written writes.at writes.writes
    | inr (inr logged) ↦ of_local (logs_it p plan t code.of node own logged)
  ]

  chosen_hold : (node : ℕ) → IsNodeOf code.thread node → IsWrite node → held_names_before p code.thread node ≢ []
  chosen_hold node own (of_element is location at writes) =
      let same : (node_is p plan t code.of node own).0 ≡ is = same_Some _ is (sym (node_is p plan t code.of node own).1 ∙ at) in
      let held = locked_here p plan t code.of node own location (ap (λ (z : Node). z.writes) same ∙ writes) in
      some_names node own (some_locks (set_before p t node) held.0 held.1)
  chosen_hold node own (of_local logged) = logged.holds

  -- something is held
  pub resumed_hold : (node : ℕ) (place : NodePlace) (address : ℕ) → IsNodeOf code.thread node → ResumesAt p code node place address →
      held_names_before p code.thread node ≢ []
  resumed_hold node _ address own (at_chosen chosen) = chosen_hold node own (chosen_write node own chosen)
  resumed_hold node _ address own (past_lock from lock is own_from at locks) =
      some_names node own (some_locks (set_before p t node) (number_in (lock_names p.flat code.of.text) lock)
      (held_after_lock p plan t code.of from lock node is own_from own at locks))
  resumed_hold node _ address own (past_unlock from lock is own_from at unlocks some) = some

-- a boundary is resumed past at the node's core
pub at_core : (p : Plan) (code : Code p) (node address : ℕ) → ResumesAt p code node the_core address →
    IsChosen p.graph p.boundaries node × (address ≡ code.is.places.core node)
at_core p code node _ (at_chosen chosen) = (chosen, refl)

-- none is resumed at the entry of a node that stores an element
pub no_store : (p : Plan) (plan : IsPlan p) (code : Code p) (node address : ℕ) → ResumesAt p code node the_entry address → IsStoreNode p.graph node → ⊥
no_store p plan code node _ (past_lock from lock is own_from at locks) = stores_none_after_lock p plan from node lock is at locks
no_store p plan code node _ (past_unlock from lock is own_from at unlocks some) = stores_none_after_unlock p plan from node lock is at unlocks
