-- What a thread does at the node of its graph thread, in the source and in the graph.
use Rattle.crash_simulation.proofs.Common.{◌≡◌, ℕ, List, sym, ◌∙◌, ap, arith, subst, true, false, Option, Some, None, refl, Bool, slice_get, is_some, ℤ}
use Rattle.crash_simulation.proofs.Common.{false≢true, nat_tests, same_Some, slice_get_within, LockName, Flat, Statement, State, Pending, source_step}
use Rattle.crash_simulation.proofs.Common.{lock_number, IsWellFormed, unlocks, locks, first_unlock, unlocks_found, Seen, GraphThread, FlowState, seen_by}
use Rattle.crash_simulation.proofs.Common.{effect_of, graph_step, effect_step, NodeAt, Matches, Standing, threads_standings, lowered, Action, Node, Unlock}
use Rattle.crash_simulation.proofs.Common.{found_in, ActionLeads, node_at, graph_is, steps_lockstep, at_nodes, matched, store_ahead, is_there, owes_at, IsThere}
use Rattle.crash_simulation.proofs.Common.{StoresHere, owing_at, locking_at, unlocking_at}
use Rattle.flow_graph.specs.Actions.{Effect}
use Rattle.flow_graph.specs.Actions as a

-- ---- Effects

-- one that neither stores nor passes a mutex
abbrev pub is_quiet : Effect → Bool
is_quiet (a.Makes store next) = false
is_quiet (a.Takes mutex next) = false
is_quiet (a.Gives mutex next) = false
is_quiet e = true

none_if : {A : Type 0} (o : Option A) → ((x : A) → o ≡ Some x → ⊥) → o ≡ None
none_if o h = grind (arith, nat_tests)

unlocks_if : (ls : List ℤ) (all : List Standing) (left : List Statement) (lock : LockName) (next : ℕ) (p : Option Pending) →
    ActionLeads all (Unlock lock next) (record { left = left; owes = is_some p }) →
    (let ahead : Option ℕ = elim p [ Some store ↦ None | None ↦ first_unlock ls left ] in ahead ≡ Some (lock_number ls lock))
unlocks_if ls all left lock next None d = ap (first_unlock ls) (ap (λ (z : Standing). z.left) d.is)
unlocks_if ls all left lock next (Some store) d = let b : true ≡ false = ap (λ (z : Standing). z.owes) d.is in cc

-- ---- At a node

-- the graph thread's node is there
pub some_node : (x : Flat) → IsWellFormed x → (s : FlowState) (source : State) (t : ℕ) → Matches x s source → (graph_thread : GraphThread) →
    slice_get s.graph_threads t ≡ Some graph_thread → (node : Node) × NodeAt (lowered x) graph_thread.at node
some_node x w s source t matches graph_thread found =
    let there = found_in source.threads t (omega (arith, slice_get_within s.graph_threads t graph_thread found, matches.count)) in
    let stands = (matches.each t graph_thread there.0 found there.1).stands in
    let n = node_at x graph_thread.at (record { left = there.0.left; owes = is_some there.0.pending }) w.threads stands in
    (n.0, at_nodes x graph_thread.at n.0 n.1)

-- a graph thread at its node, where the states of the graph and of the source match
pub record IsAtNode (x : Flat) (s : FlowState) (source : State) (t : ℕ) : Type 0 where
  pub formed : IsWellFormed x
  pub matches : Matches x s source
  pub graph_thread : GraphThread
  pub found : slice_get s.graph_threads t ≡ Some graph_thread
  pub node : Node
  pub at : NodeAt (lowered x) graph_thread.at node

module _ {x : Flat} {s : FlowState} {source : State} {t : ℕ} (i : IsAtNode x s source t) where
  open i use {matches, graph_thread, found, node, at}

  pub there : IsThere x source t graph_thread node
  there = is_there x i.formed t s source matches graph_thread node found at

  abbrev seen : Seen
  seen = seen_by s graph_thread

  -- the step of the graph, by the node's effect
  pub step_is : (effect : Effect) → effect_of node.action seen ≡ Some effect → graph_step (lowered x) s t ≡ a.done s t graph_thread effect
  step_is effect does = graph_is (lowered x) s t (Some graph_thread) found ∙ ap (a.node_step s t graph_thread) at ∙ ap (effect_step s t graph_thread) does

  -- where the graph makes one, so does the source
  pub source_steps : (next : FlowState) → graph_step (lowered x) s t ≡ Some next → (after : State) × (source_step source t ≡ Some after) × Matches x next after
  source_steps next step = grind (arith, matched, steps_lockstep)

  -- ---- What is pending

  pub ahead_is : store_ahead source t ≡ graph_thread.pending
  ahead_is = grind (arith, there)

  pub owes_it : StoresHere node.action → (store : Pending) × (graph_thread.pending ≡ Some store)
  owes_it stores = grind (arith, owes_at, there)

  -- one that is pending is what the node does
  pub makes_it : (store : Pending) → graph_thread.pending ≡ Some store → (next : ℕ) × (effect_of node.action seen ≡ Some (a.Makes store next))
  makes_it store is =
      let stores = owing_at (threads_standings x.threads) node.action there.thread.left there.thread.pending store (sym there.match.pending ∙ is)
      there.does in (
        stores.next,
        ap (λ (z : Action). effect_of z seen) stores.is
            ∙ ap (λ (p : Option Pending). let o : Option Effect = elim p [ Some q ↦ Some (a.Makes q stores.next) | None ↦ None ] in o) is,
      )

  -- ---- Quiet effects

  module _ (effect : Effect) (does : effect_of node.action seen ≡ Some effect) (quiet : is_quiet effect ≡ true) where
    not_so : (other : Effect) → effect_of node.action seen ≡ Some other → is_quiet other ≡ false → ⊥
    not_so other is loud = false≢true (sym loud ∙ ap is_quiet (same_Some other effect (sym is ∙ does)) ∙ quiet)

    pub locks_none : locks source t ≡ None
    locks_none = grind (arith, locking_at, none_if, not_so, there)

    pub unlocks_none : unlocks source t ≡ None
    unlocks_none = grind (arith, unlocking_at, none_if, not_so, there)

    pub ahead_none : store_ahead source t ≡ None
    ahead_none = ahead_is ∙ none_if graph_thread.pending (λ store is. let made = makes_it store is in not_so (a.Makes store made.0) made.1 refl)

  -- ---- Unlocks

  module _ (lock : LockName) (next : ℕ) (is : node.action ≡ Unlock lock next) where
    pub unlocks_it : unlocks source t ≡ Some (lock_number graph_thread.locals lock)
    unlocks_it =
        let th = there in
        let all = threads_standings x.threads in
        unlocks_found source t th.thread th.there
        ∙ (unlocks_if th.thread.locals all th.thread.left lock next th.thread.pending
        (subst (λ (z : Action). ActionLeads all z (record { left = th.thread.left; owes = is_some th.thread.pending })) is th.does)
        ∙ ap (λ (ls : List ℤ). Some (lock_number ls lock)) (sym th.match.locals))

    pub unlock_locks_none : locks source t ≡ None
    unlock_locks_none = grind (arith, locking_at, none_if, there)

-- for crates above, of the states and the node by themselves
pub owes_here : (x : Flat) → IsWellFormed x → (s : FlowState) (source : State) (t : ℕ) → Matches x s source → (graph_thread : GraphThread) →
    slice_get s.graph_threads t ≡ Some graph_thread → (node : Node) → NodeAt (lowered x) graph_thread.at node → StoresHere node.action →
    (store : Pending) × (graph_thread.pending ≡ Some store)
owes_here x w s source t matches graph_thread found node at =
    owes_it (record { formed = w; matches = matches; graph_thread = graph_thread; found = found; node = node; at = at })
