-- A step of the graph from two states that are the same to its thread.
use Rattle.std.proofs.Common.{◌≡◌, ◌≢◌, refl, ℕ, List, [], ◌∷◌, sym, ◌∙◌, ap, ap₂, subst, arith, Option, Some, Bool, true}
use Rattle.std.specs.Prelude.{slice_get, is_some, ℤ, if◌then◌else◌}
use Rattle.std.proofs.lemmas.Option.{slice_get_within}
use Rattle.ido_ints.specs.TypedNumbers.{Typed}
use Rattle.ido_ints.specs.Reduction.{reduced}
use Rattle.ido_ints.specs.Operators.{is_zero}
use Rattle.c_tree.specs.Exprs as e
use Rattle.c_tree.specs.Programs.{Variable}
use Rattle.c_tree.specs.Values.{element_at, value}
use Rattle.c_tree.specs.Flats as f
use Rattle.c_tree.specs.Source as m
use Rattle.c_tree.specs.Source.{Pending}
use Rattle.c_tree.specs.WellFormed.{IsWellFormed}
use Rattle.c_tree.specs.LockNames.{Held, lock_names}
use Rattle.c_tree.specs.LockDiscipline.{Use, expr_uses, target_uses, assign_uses, is_guarded, AreGuarded}
use Rattle.c_tree.proofs.Public.{index_element}
use Rattle.source_machine.specs.ElementLocks.{element_lock, found_number}
use Rattle.source_machine.specs.Discipline.{KeepList, StateKeeps}
use Rattle.source_machine.specs.StepExchanges.{IsSameTo}
use Rattle.source_machine.proofs.Public.{guards_each, set_long, guarded_rest, guarded_left}
use Rattle.source_machine.proofs.Public.{guarded_right, value_same, keeps_assign, keeps_if, keeps_arm, keeps_while}
use Rattle.flow_graph.specs.Nodes.{Action, Eval, Store, Test, Lock, Unlock, End, Node}
use Rattle.flow_graph.specs.Lowering.{lowered}
use Rattle.flow_graph.specs.Liveness.{NodeAt}
use Rattle.flow_graph.specs.Actions.{Seen, GraphThread, FlowState, Effect, Sets, Owes, Goes, effect_of, seen_by, graph_step}
use Rattle.flow_graph.specs.Lockstep.{Standing, threads_standings, GraphThreadMatches, Matches}
use Rattle.flow_graph.proofs.Public.{ActionLeads, chooses, repeats, node_at, set_same, set_other, found_in, Stepped, stepped, moved, graph_threads_after}
use Rattle.flow_graph.proofs.Public.{effects_same, nodes_at}

-- ---- What an action reads by name

abbrev pub action_uses : Action → List Use
action_uses (Eval target value next) = assign_uses target value
action_uses (Store variable kind next) = []
action_uses (Test condition holds fails) = expr_uses condition.expr
action_uses (Lock lock next) = []
action_uses (Unlock lock next) = []
action_uses End = []

module _ (variables : List Variable) (names : List e.LockName) (h : Held) (ls : List ℤ) (p : Option Pending) (vs ws : List (List ℤ))
    (same : (u : Use) → is_guarded variables names h u ≡ true →
    found_number ws u.variable (index_element ls vs u.index) ≡ found_number vs u.variable (index_element ls vs u.index)) where
  abbrev seen : List (List ℤ) → Seen
  seen us = record { locals = ls; pending = p; variables = us }

  lockstep : (x : e.Expr) → AreGuarded variables names h (expr_uses x) → value ls ws x ≡ value ls vs x
  lockstep x g = value_same variables names h ls vs ws same x g

  -- an action that reads by name only what is guarded has the same effect in both states
  effect_same : (a : Action) → AreGuarded variables names h (action_uses a) → effect_of a (seen ws) ≡ effect_of a (seen vs)
  effect_same (Eval (e.ToLocal place local kind) x next) g =
      let number = lockstep x.expr (guarded_left variables names h (expr_uses x.expr) (target_uses (e.ToLocal place local kind)) g) in
      ap (λ (n : Typed). Some (Sets local (reduced kind n.number) next)) number
  effect_same (Eval (e.ToVariable place variable kind) x next) g =
      let number = lockstep x.expr (guarded_left variables names h (expr_uses x.expr) (target_uses (e.ToVariable place variable kind)) g) in
      ap (λ (n : Typed). Some (Owes (record { variable = variable; element = 0; number = reduced kind n.number }) next)) number
  effect_same (Eval (e.ToElement place variable kind index) x next) g =
      let number = lockstep x.expr (guarded_left variables names h (expr_uses x.expr) (target_uses (e.ToElement place variable kind index)) g) in
      let at = lockstep index.expr (guarded_rest variables names h _ (expr_uses index.expr)
      (guarded_right variables names h (expr_uses x.expr) (target_uses (e.ToElement place variable kind index)) g)) in
      ap₂ (λ (i n : Typed). Some (Owes (record { variable = variable; element = element_at i; number = reduced kind n.number }) next)) at number
  effect_same (Store variable kind next) g = refl
  effect_same (Test condition holds fails) g =
      ap (λ (n : Typed). Some (Goes (if is_zero n.number then fails else holds))) (lockstep condition.expr g)
  effect_same (Lock lock next) g = refl
  effect_same (Unlock lock next) g = refl
  effect_same End g = refl

-- ---- A thread at its node

-- what the source's thread is there
pub record IsThere (x : f.Flat) (s : m.State) (t : ℕ) (graph_thread : GraphThread) (node : Node) : Type 0 where
  pub thread : m.Thread
  pub there : slice_get s.threads t ≡ Some thread
  pub match : GraphThreadMatches x graph_thread thread
  pub does : ActionLeads (threads_standings x.threads) node.action (record { left = thread.left; owes = is_some thread.pending })

pub is_there : (x : f.Flat) (w : IsWellFormed x) (t : ℕ) (a : FlowState) (s : m.State) → Matches x a s → (graph_thread : GraphThread) (node : Node) →
    slice_get a.graph_threads t ≡ Some graph_thread → NodeAt (lowered x) graph_thread.at node → IsThere x s t graph_thread node
is_there x w t a s h graph_thread node here at =
    let there = found_in s.threads t (omega (arith, h.count, slice_get_within a.graph_threads t graph_thread here)) in
    let match = h.each t graph_thread there.0 here there.1 in
    let found = node_at x graph_thread.at (record { left = there.0.left; owes = is_some there.0.pending }) w.threads match.stands in
    let same_node : found.0 ≡ node = let k = nodes_at x graph_thread.at node at in let l = found.1 in cc in
    let P : Node → Type 0 = λ n. ActionLeads (threads_standings x.threads) n.action (record { left = there.0.left; owes = is_some there.0.pending }) in
    record { thread = there.0; there = there.1; match = match; does = subst P same_node found.2 }

-- the thread has the mutexes for what its action reads by name
pub guarded_by : (x : f.Flat) (names : List e.LockName) (all : List Standing) (h after : Held) (a : Action) (left : List f.Statement) (owes : Bool) →
    ActionLeads all a (record { left = left; owes = owes }) → KeepList x.variables names h left after → AreGuarded x.variables names h (action_uses a)
guarded_by x names all h after (Eval target value next) left owes d k =
    let is : left ≡ f.Assign d.place target value ∷ d.rest = ap (λ (z : Standing). z.left) d.is in
    let kept : KeepList x.variables names h (f.Assign d.place target value ∷ d.rest) after =
    subst (λ (l : List f.Statement). KeepList x.variables names h l after) is k in
    (keeps_assign x.variables names kept.1).0
guarded_by x names all h after (Store variable kind next) left owes d k = refl
guarded_by x names all h after (Test condition holds fails) left owes d k = elim d [
  | chooses place body arms otherwise rest is a b ↦
      let same : left ≡ f.If place (f.arm_and condition body arms) otherwise ∷ rest = ap (λ (z : Standing). z.left) is in
      let kept : KeepList x.variables names h (f.If place (f.arm_and condition body arms) otherwise ∷ rest) after =
      subst (λ (l : List f.Statement). KeepList x.variables names h l after) same k in
      (keeps_arm x.variables names (keeps_if x.variables names kept.1).0).0
  | repeats place body rest is a b ↦
      let same : left ≡ f.While place condition body ∷ rest = ap (λ (z : Standing). z.left) is in
      let kept : KeepList x.variables names h (f.While place condition body ∷ rest) after =
      subst (λ (l : List f.Statement). KeepList x.variables names h l after) same k in
      (keeps_while x.variables names kept.1).0
]
guarded_by x names all h after (Lock lock next) left owes d k = refl
guarded_by x names all h after (Unlock lock next) left owes d k = refl
guarded_by x names all h after End left owes d k = refl

-- the set of names that a thread with these locals holds guards these uses, and the element of each use that it guards is the thread's, whatever numbers
-- variables have
pub record AreGuardedHere (x : f.Flat) (s : m.State) (t : ℕ) (locals : List ℤ) (us : List Use) : Type 0 where
  pub names : List e.LockName
  pub set : Held
  pub guarded : AreGuarded x.variables names set us
  pub each : (u : Use) (numbers : List (List ℤ)) → is_guarded x.variables names set u ≡ true →
      slice_get s.holders (element_lock x.variables u.variable (index_element locals numbers u.index)) ≡ Some (Some t)

pub guarded_at : (x : f.Flat) (s : m.State) (t : ℕ) → StateKeeps x s → (graph_thread : GraphThread) (node : Node) → IsThere x s t graph_thread node →
    AreGuardedHere x s t graph_thread.locals (action_uses node.action)
guarded_at x s t keeps graph_thread node th =
    let own = keeps.each t th.thread th.there in
    let names = lock_names x own.text in
    record {
      names = names;
      set = own.set;
      guarded =
          guarded_by x names (threads_standings x.threads) own.set _ node.action th.thread.left (is_some th.thread.pending) th.does own.left;
      each = λ u numbers g. subst
          (λ (ls : List ℤ). slice_get s.holders (element_lock x.variables u.variable (index_element ls numbers u.index)) ≡ Some (Some t))
          (sym th.match.locals)
          (guards_each names own.set th.thread.locals s.holders t own.held (set_long x t s.holders th.thread own) numbers x.variables u g);
    }

-- ---- A step

pub moved_there : (x : f.Flat) (s next : FlowState) (t : ℕ) (st : Stepped (lowered x) s next t) →
    slice_get next.graph_threads t ≡ Some (moved st.graph_thread st.effect)
moved_there x s next t st = ap (λ (ws : List GraphThread). slice_get ws t) (graph_threads_after s next t st.graph_thread st.effect st.is)
    ∙ set_same s.graph_threads t (moved st.graph_thread st.effect) st.graph_thread st.found

-- a step leaves the graph threads of the other threads
pub others_stay : (x : f.Flat) (s next : FlowState) (t u : ℕ) → u ≢ t → graph_step (lowered x) s t ≡ Some next →
    slice_get next.graph_threads u ≡ slice_get s.graph_threads u
others_stay x s next t u n h =
    let st = stepped (lowered x) s next t h in
    ap (λ (ws : List GraphThread). slice_get ws u) (graph_threads_after s next t st.graph_thread st.effect st.is)
    ∙ set_other s.graph_threads t u (moved st.graph_thread st.effect) n

-- a state of the graph and the source's that it matches
pub record MatchedState (x : f.Flat) : Type 0 where
  pub flow : FlowState
  pub source : m.State
  pub matches : Matches x flow source

module _ (x : f.Flat) (w : IsWellFormed x) (t : ℕ) (a b : MatchedState x) (keeps : StateKeeps x a.source) (same : IsSameTo x a.source b.source t) where
  same_seen : (ls : List ℤ) (us : List Use) (here : AreGuardedHere x a.source t ls us) (u : Use) → is_guarded x.variables here.names here.set u ≡ true →
      found_number a.flow.variables u.variable (index_element ls b.flow.variables u.index)
      ≡ found_number b.flow.variables u.variable (index_element ls b.flow.variables u.index)
  same_seen ls us here u h =
      let n : ℕ = index_element ls b.flow.variables u.index in
      ap (λ (vs : List (List ℤ)). found_number vs u.variable n) a.matches.variables
      ∙ (same.guarded u.variable n (here.each u b.flow.variables h) ∙ ap (λ (vs : List (List ℤ)). found_number vs u.variable n) (sym b.matches.variables))

  -- a step does the same to the thread's own graph thread in two states in which that is the same
  pub step_lockstep : (na nb : FlowState) → slice_get a.flow.graph_threads t ≡ slice_get b.flow.graph_threads t → graph_step (lowered x) a.flow t ≡ Some na →
      graph_step (lowered x) b.flow t ≡ Some nb → slice_get na.graph_threads t ≡ slice_get nb.graph_threads t
  step_lockstep na nb here ha hb =
      let p = stepped (lowered x) a.flow na t ha in
      let q = stepped (lowered x) b.flow nb t hb in
      let same_graph_thread : p.graph_thread ≡ q.graph_thread = let g = p.found in let h = q.found in cc in
      let same_node : p.node ≡ q.node =
      let g = p.at in let h = q.at in let i = ap (λ (z : GraphThread). slice_get (lowered x).nodes z.at) same_graph_thread in cc in
      let guarded = guarded_at x a.source t keeps p.graph_thread p.node (is_there x w t a.flow a.source a.matches p.graph_thread p.node p.found p.at) in
      let first : effect_of p.node.action (seen_by a.flow p.graph_thread) ≡ effect_of p.node.action (seen_by b.flow p.graph_thread) =
      effect_same x.variables guarded.names guarded.set p.graph_thread.locals p.graph_thread.pending b.flow.variables a.flow.variables
      (same_seen p.graph_thread.locals (action_uses p.node.action) guarded) p.node.action guarded.guarded in
      let second : effect_of p.node.action (seen_by b.flow p.graph_thread) ≡ effect_of q.node.action (seen_by b.flow q.graph_thread) =
      ap₂ (λ (n : Node) (z : GraphThread). effect_of n.action (seen_by b.flow z)) same_node same_graph_thread in
      let effects : q.effect ≡ p.effect = effects_same p.effect q.effect (sym p.does ∙ (first ∙ (second ∙ q.does))) in
      moved_there x a.flow na t p
      ∙ (ap₂ (λ (z : GraphThread) (y : Effect). Some (moved z y)) same_graph_thread (sym effects) ∙ sym (moved_there x b.flow nb t q))
