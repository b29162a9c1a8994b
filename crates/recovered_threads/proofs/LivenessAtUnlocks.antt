-- What nodes assign; what is live after an unlock is live before it; and no store follows a lock or an unlock.
use Rattle.std.proofs.Common.{◌≡◌, ℕ, zero, suc, ◌+◌, List, [], ◌∷◌, ◌++◌, refl, ap, arith, sym, ◌∙◌, subst, false, Option, Some, None, is_some}
use Rattle.std.specs.Prelude.{slice_get, ℤ}
use Rattle.std.specs.List.{AllByRecursion, Contains}
use Rattle.std.proofs.lemmas.Bool.{true≢false}
use Rattle.std.proofs.lemmas.Option.{none-some, same_Some, slice_get_within}
use Rattle.ido_base.specs.declared.place.Place.{Place}
use Rattle.ido_ints.specs.declared.kinds.Kind.{Kind}
use Rattle.c_tree.specs.Exprs as e
use Rattle.c_tree.specs.Flats as f
use Rattle.c_tree.specs.Source.{Pending}
use Rattle.flow_graph.specs.Nodes.{Action, Eval, Store, Test, Lock, Unlock, End, Node, Graph, successors}
use Rattle.flow_graph.specs.Actions.{GraphThread, FlowState, seen_by}
use Rattle.flow_graph.specs.Lowering.{table_of, Table, assign_nodes, count, statements_count, arms_count}
use Rattle.flow_graph.specs.Lowering.{thread_count, entry, statement_nodes, statements_nodes, arms_nodes}
use Rattle.flow_graph.specs.Lowering.{thread_nodes, threads_nodes}
use Rattle.flow_graph.specs.IdempotentCuts.{IsStoreNode, stores}
use Rattle.flow_graph.specs.Lockstep.{Standing, free, threads_standings, GraphThreadMatches}
use Rattle.flow_graph.specs.Liveness.{NodeAt, IsLive, is_read_later}
use Rattle.flow_graph.proofs.Public.{found_in, lowered_nodes, ActionLeads, Agree, Unlocks, agrees, node_at}
use Rattle.thread_code.specs.Plans.{Plan, IsLogged, IsPlan}
use Rattle.thread_code.specs.NodeCodeEffects.{bytes_written}
use Rattle.thread_code.specs.RegistersAtNodes.{IsPendingIn, Enters, IsReady, LogView, to_assign, to_enter}
use Rattle.recovered_threads.specs.RecordDescriptions.{Code, IsOrderly}
use Rattle.recovered_threads.specs.Laws.{UnlocksEnter}

-- ---- An assignment of a local assigns that, and an unlock nothing

abbrev AssignsTo : e.Lvalue → Node → Type 0
AssignsTo (e.ToLocal place local kind) n = n.assigns ≡ Some local
AssignsTo (e.ToVariable place variable kind) n = Unit {0}
AssignsTo (e.ToElement place variable kind index) n = Unit {0}

abbrev AssignsAs : Action → Node → Type 0
AssignsAs (Eval target value next) n = AssignsTo target n
AssignsAs (Store variable kind next) n = Unit {0}
AssignsAs (Test condition to other) n = Unit {0}
AssignsAs (Lock lock next) n = Unit {0}
AssignsAs (Unlock lock next) n = n.assigns ≡ None
AssignsAs End n = Unit {0}

abbrev AllAssign : List Node → Type 0
AllAssign ns = AllByRecursion (λ (n : Node). AssignsAs n.action n) ns

both : (ns ms : List Node) → AllAssign ns → AllAssign ms → AllAssign (ns ++ ms)
both [] ms a b = b
both (n ∷ ns) ms a b = (a.0, both ns ms a.1 b)

assign_assigns : (table : Table) (place : Place) (target : e.Lvalue) (value : e.Placed) (first next : ℕ) →
    AllAssign (assign_nodes table place target value first next)
assign_assigns table place (e.ToLocal name local kind) value first next = (refl, tt)
assign_assigns table place (e.ToVariable name variable kind) value first next = (tt, (tt, tt))
assign_assigns table place (e.ToElement name variable kind index) value first next = (tt, (tt, tt))

mutual
  one_assigns : (table : Table) (x : f.Statement) (first next : ℕ) → AllAssign (statement_nodes table x first next)
  one_assigns table (f.Assign place target value) first next = assign_assigns table place target value first next
  one_assigns table (f.If place arms otherwise) first next =
      both (arms_nodes table arms place (entry (statements_count otherwise) (first + arms_count arms) next) first next)
      (statements_nodes table otherwise (first + arms_count arms) next)
      (arms_assign table arms place (entry (statements_count otherwise) (first + arms_count arms) next) first next)
      (all_assign table otherwise (first + arms_count arms) next)
  one_assigns table (f.While place condition body) first next = (tt, all_assign table body (suc first) first)
  one_assigns table (f.Do place body condition) first next =
      both (statements_nodes table body first (first + statements_count body)) _ (all_assign table body first (first + statements_count body)) (tt, tt)
  one_assigns table (f.Lock place name) first next = (tt, tt)
  one_assigns table (f.Unlock place name) first next = (refl, tt)

  all_assign : (table : Table) (xs : f.Statements) (first next : ℕ) → AllAssign (statements_nodes table xs first next)
  all_assign table f.no_statement first next = tt
  all_assign table (f.statement_and x more) first next =
      both (statement_nodes table x first (entry (statements_count more) (first + count x) next)) (statements_nodes table more (first + count x) next)
      (one_assigns table x first (entry (statements_count more) (first + count x) next)) (all_assign table more (first + count x) next)

  arms_assign : (table : Table) (xs : f.Arms) (place : Place) (last first next : ℕ) → AllAssign (arms_nodes table xs place last first next)
  arms_assign table f.no_arm place last first next = tt
  arms_assign table (f.arm_and condition body more) place last first next = (
    tt,
    both (statements_nodes table body (suc first) next) (arms_nodes table more place last (suc first + statements_count body) next)
        (all_assign table body (suc first) next) (arms_assign table more place last (suc first + statements_count body) next),
  )

threads_assign : (x : f.Flat) (ts : List f.Thread) (first : ℕ) → AllAssign (threads_nodes x ts first)
threads_assign x [] first = tt
threads_assign x (t ∷ ts) first =
    both (thread_nodes (table_of x t) t first) (threads_nodes x ts (first + thread_count t))
    (both (statements_nodes (table_of x t) t.body first (first + statements_count t.body)) _
    (all_assign (table_of x t) t.body first (first + statements_count t.body)) (tt, tt))
    (threads_assign x ts (first + thread_count t))

assigns_at : (ns : List Node) (k : ℕ) (n : Node) → AllAssign ns → slice_get ns k ≡ Some n → AssignsAs n.action n
assigns_at [] k n all g = absurd (none-some n g)
assigns_at (x ∷ ns) zero n all g = subst (λ (y : Node). AssignsAs y.action y) (same_Some x n g) all.0
assigns_at (x ∷ ns) (suc k) n all g = assigns_at ns k n all.1 g

-- ---- What stands at a node

standing_of : (all : List Standing) (ns : List Node) (ss : List Standing) (k : ℕ) (n : Node) → Agree all ns ss → slice_get ns k ≡ Some n →
    (s : Standing) × ActionLeads all n.action s
standing_of all [] ss k n h g = absurd (none-some n g)
standing_of all (x ∷ ns) [] k n h g = absurd h
standing_of all (x ∷ ns) (s ∷ ss) zero n h g = (s, subst (λ (y : Node). ActionLeads all y.action s) (same_Some x n g) h.0)
standing_of all (x ∷ ns) (s ∷ ss) (suc k) n h g = standing_of all ns ss k n h.1 g

-- ---- The next node

not_pending : (o : Option Pending) → is_some o ≡ false → o ≡ None
not_pending None h = refl
not_pending (Some store) h = absurd (true≢false h)

no_pending_in : (p : Plan) (a : Action) (s : FlowState) (graph_thread : GraphThread) (x : List ℕ) → graph_thread.pending ≡ None →
    IsPendingIn p a (seen_by s graph_thread) x
no_pending_in p (Eval target value next) s graph_thread x none = tt
no_pending_in p (Store variable kind next) s graph_thread x none = λ store some. absurd (none-some store (sym none ∙ some))
no_pending_in p (Test condition to other) s graph_thread x none = tt
no_pending_in p (Lock lock next) s graph_thread x none = tt
no_pending_in p (Unlock lock next) s graph_thread x none = tt
no_pending_in p End s graph_thread x none = tt

module _ (p : Plan) (plan : IsPlan p) where
  node_is : (node : ℕ) (is : Node) → NodeAt p.graph node is → slice_get (threads_nodes p.flat p.flat.threads 0) node ≡ Some is
  node_is node is at = ap (λ (ns : List Node). slice_get ns node) (sym (ap (λ (g : Graph). g.nodes) plan.lowered ∙ lowered_nodes p.flat)) ∙ at

  assigns_as : (node : ℕ) (is : Node) → NodeAt p.graph node is → AssignsAs is.action is
  assigns_as node is at = assigns_at (threads_nodes p.flat p.flat.threads 0) node is (threads_assign p.flat p.flat.threads 0) (node_is node is at)

  pub assigned_is : (node : ℕ) (is : Node) → NodeAt p.graph node is → (place : Place) (local : ℕ) (kind : Kind) (value : e.Placed) (next : ℕ) →
      is.action ≡ Eval (e.ToLocal place local kind) value next → is.assigns ≡ Some local
  assigned_is node is at place local kind value next does = subst (λ (a : Action). AssignsAs a is) does (assigns_as node is at)

  abbrev all : List Standing
  all = threads_standings p.flat.threads

  leads_at : (node : ℕ) (is : Node) → NodeAt p.graph node is → (s : Standing) × ActionLeads all is.action s
  leads_at node is at = standing_of all (threads_nodes p.flat p.flat.threads 0) all node is (agrees p.flat plan.formed.threads) (node_is node is at)

  -- where no store is owed none is made
  stores_none : (node : ℕ) (rest : List f.Statement) → slice_get all node ≡ Some (free rest) → IsStoreNode p.graph node → ⊥
  stores_none node rest stands (stores x variable kind next at does) =
      let n = node_at p.flat node (free rest) plan.formed.threads stands in
      let same : n.0 ≡ x = same_Some n.0 x (sym n.1 ∙ node_is node x at) in
      let leads = subst (λ (a : Action). ActionLeads all a (free rest)) (ap (λ (z : Node). z.action) same ∙ does) n.2 in
      true≢false (ap (λ (z : Standing). z.owes) (sym leads.is))

  pub free_after_lock : (from next : ℕ) (lock : e.LockName) (is : Node) → NodeAt p.graph from is → is.action ≡ Lock lock next → IsStoreNode p.graph next → ⊥
  free_after_lock from next lock is at locks =
      let does = leads_at from is at in
      let leads = subst (λ (a : Action). ActionLeads all a does.0) locks does.1 in
      stores_none next leads.rest leads.follows

  pub free_after_unlock : (from next : ℕ) (lock : e.LockName) (is : Node) → NodeAt p.graph from is → is.action ≡ Unlock lock next →
      IsStoreNode p.graph next → ⊥
  free_after_unlock from next lock is at unlocks =
      let does = leads_at from is at in
      let leads = subst (λ (a : Action). ActionLeads all a does.0) unlocks does.1 in
      stores_none next leads.rest leads.follows

module _ {p : Plan} (code : Code p) {s : FlowState} {graph_thread : GraphThread} (from : ℕ) {lock : e.LockName} {is : Node} (plan : IsPlan p)
    (orderly : IsOrderly p s) (there : slice_get s.graph_threads code.thread.number ≡ Some graph_thread) (at : NodeAt p.graph from is)
    (unlocks : is.action ≡ Unlock lock graph_thread.at) where
  assigns_none : is.assigns ≡ None
  assigns_none = subst (λ (a : Action). AssignsAs a is) unlocks (assigns_as p plan from is at)

  live_before : (local : ℕ) → IsLive p.graph local graph_thread.at → IsLive p.graph local from
  live_before local live =
      is_read_later is at (λ assigns. none-some local (sym assigns_none ∙ assigns))
      (subst (λ (a : Action). Contains (successors a) graph_thread.at) (sym unlocks) (0, omega arith, refl)) live

  none_pending : graph_thread.pending ≡ None
  none_pending =
      let does = leads_at p plan from is at in
      let after : Unlocks (all p plan) lock graph_thread.at does.0 = subst (λ (a : Action). ActionLeads (all p plan) a does.0) unlocks does.1 in
      let source = found_in orderly.source.threads code.thread.number
      (let l = slice_get_within s.graph_threads code.thread.number graph_thread there in omega (arith, l, orderly.matches.count)) in
      let matches : GraphThreadMatches p.flat graph_thread source.0 = orderly.matches.each code.thread.number graph_thread source.0 there source.1 in
      let same = same_Some _ _ (sym matches.stands ∙ after.follows) in
      matches.pending ∙ not_pending source.0.pending (ap (λ (z : Standing). z.owes) same)

  enters_after : (view : LogView) (x : List ℕ) → Enters p code.thread from (seen_by s graph_thread) view x →
      Enters p code.thread graph_thread.at (seen_by s graph_thread) view x
  enters_after view x enters = record {
    at_side = enters.at_side;
    count = enters.count;
    locals = λ local k kind live. enters.locals local k kind (live_before local live);
    pending = λ node here. no_pending_in p node.action s graph_thread x none_pending;
  }

  -- an unlock is no assignment
  unlogged : IsLogged p code.thread from → ⊥
  unlogged logged =
      let a = logged.assigns in
      none-some 8 (sym (ap bytes_written unlocks)
      ∙ (ap (λ (n : Node). bytes_written n.action) (same_Some is a.is (sym at ∙ a.at)) ∙ ap bytes_written a.action))

  ready_after : (view : LogView) (owed : ℤ) (x : List ℕ) → IsReady p code.thread from (seen_by s graph_thread) view owed x →
      Enters p code.thread graph_thread.at (seen_by s graph_thread) view x
  ready_after view owed x (to_enter none enters) = enters_after view x enters
  ready_after view owed x (to_assign logged may) = absurd (unlogged logged)

pub unlocks_enter : UnlocksEnter
unlocks_enter p code s graph_thread from mutex view owed is x plan orderly there at unlocks ready =
    ready_after code from plan orderly there at unlocks view owed x ready
