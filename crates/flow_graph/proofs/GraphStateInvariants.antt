-- What every run of a graph keeps: its edges, what steps leave, and that the source keeps step.
use Rattle.std.proofs.Common.{◌≡◌, ◌⊎◌, inl, inr, ⊎_elim, ◌<◌, ◌≤◌, refl, ℕ, zero, suc, List, [], ◌∷◌, length, map, ◌+◌}
use Rattle.flow_graph.proofs.SuccessorsInThread.{closed_from, contained}
use Rattle.std.proofs.Common.{◌∙◌, ap, sym, subst, arith, Option, Some, None, Bool, true, false, slice_set}
use Rattle.std.specs.Prelude.{slice_get, is_some, Contains, if◌then◌else◌, ℤ}
use Rattle.std.specs.List.{AllByRecursion, AllZip}
use Rattle.std.specs.Option.{option_map}
use Rattle.std.proofs.lemmas.Bool.{cases_eq}
use Rattle.std.proofs.lemmas.Option.{slice_get_within, same_Some}
use Rattle.ido_base.specs.declared.location.Location.{Location}
use Rattle.ido_base.specs.declared.limits.TheConstants.{MOST_ELEMENTS}
use Rattle.ido_ints.specs.Kinds.{Holds}
use Rattle.ido_ints.specs.Operators.{is_zero}
use Rattle.c_tree.specs.Exprs as e
use Rattle.c_tree.specs.Programs.{Variable}
use Rattle.c_tree.specs.Flats as f
use Rattle.c_tree.specs.Source as m
use Rattle.c_tree.specs.Source.{Pending}
use Rattle.c_tree.specs.LockNames.{lock_names}
use Rattle.c_tree.specs.WellFormed.{elements_in, IsSingle, IsVariable, IsWellFormed, IsFlatStatement, IsFlatPlaced}
use Rattle.c_ranges.specs.Laws.{AreFollowed}
use Rattle.c_ranges.specs.RunInvariants.{AreNumbersOf, IsStatementLeft, IsThreadOf, IsStateOf, step_exprs}
use Rattle.c_ranges.proofs.Public.{Pair, assign_followed, begins_so, references_hold, stays_so, zip_found}
use Rattle.flow_graph.specs.declared.graph.Part.{Part}
use Rattle.flow_graph.specs.Nodes.{Action, Eval, Store, Test, Lock, Unlock, End, Node, Graph, successors}
use Rattle.flow_graph.specs.Lowering.{table_of, lowered, threads_nodes, scalar, elements, expr_reads, target_reads, parts, part, thread_count}
use Rattle.flow_graph.specs.Liveness.{NodeAt}
use Rattle.flow_graph.specs.Actions as g
use Rattle.flow_graph.specs.Actions.{Seen, GraphThread, FlowState, Effect, Sets, Owes, Makes, Goes, Takes, Gives, Ends, effect_of}
use Rattle.flow_graph.specs.Actions.{effect_step, node_step, graph_thread_step, seen_by, graph_start, graph_step, graph_after}
use Rattle.flow_graph.specs.Lockstep.{Standing, free, threads_standings, GraphThreadMatches, Matches, StepsMatch, IsOwnNode}
use Rattle.flow_graph.specs.IdempotentCuts.{IsEdge}
use Rattle.flow_graph.specs.Paths.{Element, expr_elements, target_elements, reads_of, stored_element, write_of}
use Rattle.flow_graph.specs.Paths.{IsReachedFlow, Naming, naming_of, no_names, LiesInOne, LiesInWritten}
use Rattle.flow_graph.specs.Paths.{ReadsLie, WritesLie}
use Rattle.flow_graph.proofs.NodeContinuations.{ActionLeads, chooses, repeats, node_at}
use Rattle.flow_graph.proofs.Lockstep.{set_same, set_other, found_in, graph_is, lowered_nodes, begins_lockstep, steps_lockstep, lowered_threads}
use Rattle.flow_graph.proofs.Shapes.{ShapedBy, own_shaped}
use Rattle.flow_graph.proofs.HeldKeys.{plain_lies}
use Rattle.flow_graph.proofs.ElementsInLocations.{contains_none, one_of_both, lies_scalar, lies_element, lies_expr, lies_target}

-- ---- What a step is

pub record Stepped (graph : Graph) (s next : FlowState) (t : ℕ) : Type 0 where
  pub graph_thread : GraphThread
  pub found : slice_get s.graph_threads t ≡ Some graph_thread
  pub node : Node
  pub at : slice_get graph.nodes graph_thread.at ≡ Some node
  pub effect : Effect
  pub does : effect_of node.action (seen_by s graph_thread) ≡ Some effect
  pub is : g.done s t graph_thread effect ≡ Some next

pub by_effect : (graph : Graph) (s next : FlowState) (t : ℕ) (graph_thread : GraphThread) (node : Node) (o : Option Effect) →
    slice_get s.graph_threads t ≡ Some graph_thread →
    slice_get graph.nodes graph_thread.at ≡ Some node → effect_of node.action (seen_by s graph_thread) ≡ o → effect_step s t graph_thread o ≡ Some next →
    Stepped graph s next t
by_effect graph s next t graph_thread node None found at does is = cc
by_effect graph s next t graph_thread node (Some effect) found at does is =
    record { graph_thread = graph_thread; found = found; node = node; at = at; effect = effect; does = does; is = is }

pub by_node : (graph : Graph) (s next : FlowState) (t : ℕ) (graph_thread : GraphThread) (o : Option Node) → slice_get s.graph_threads t ≡ Some graph_thread →
    slice_get graph.nodes graph_thread.at ≡ o → node_step s t graph_thread o ≡ Some next → Stepped graph s next t
by_node graph s next t graph_thread None found at is = cc
by_node graph s next t graph_thread (Some node) found at is =
    by_effect graph s next t graph_thread node (effect_of node.action (seen_by s graph_thread)) found at refl is

pub by_graph_thread : (graph : Graph) (s next : FlowState) (t : ℕ) (o : Option GraphThread) → slice_get s.graph_threads t ≡ o →
    graph_thread_step graph s t o ≡ Some next →
    Stepped graph s next t
by_graph_thread graph s next t None found is = cc
by_graph_thread graph s next t (Some graph_thread) found is = by_node graph s next t graph_thread (slice_get graph.nodes graph_thread.at) found refl is

pub stepped : (graph : Graph) (s next : FlowState) (t : ℕ) → graph_step graph s t ≡ Some next → Stepped graph s next t
stepped graph s next t h = by_graph_thread graph s next t (slice_get s.graph_threads t) refl (sym (graph_is graph s t (slice_get s.graph_threads t) refl) ∙ h)

-- the thread after an effect
abbrev pub moved : GraphThread → Effect → GraphThread
moved graph_thread (Sets local number next) = record graph_thread { at = next; locals = slice_set graph_thread.locals local number }
moved graph_thread (Owes store next) = record graph_thread { at = next; pending = Some store }
moved graph_thread (Makes store next) = record graph_thread { at = next; pending = None }
moved graph_thread (Goes next) = record graph_thread { at = next }
moved graph_thread (Takes mutex next) = record graph_thread { at = next }
moved graph_thread (Gives mutex next) = record graph_thread { at = next }
moved graph_thread Ends = record graph_thread { ended = true }

pub graph_threads_of : (a b : FlowState) → Some a ≡ Some b → b.graph_threads ≡ a.graph_threads
graph_threads_of a b h = let is : a ≡ b = cc in ap (λ (s : FlowState). s.graph_threads) (sym is)

pub after_taking : (s next : FlowState) (t mutex at : ℕ) (graph_thread : GraphThread) (o : Option (Option ℕ)) →
    (let step : Option FlowState = elim o [
      | Some None ↦ Some (g.with_graph_thread (g.with_holder s mutex (Some t)) t
          (record graph_thread { at = at }))
      | _ ↦ None
    ] in step ≡ Some next) →
    next.graph_threads ≡ slice_set s.graph_threads t (record graph_thread { at = at })
after_taking s next t mutex at graph_thread None h = cc
after_taking s next t mutex at graph_thread (Some (Some other)) h = cc
after_taking s next t mutex at graph_thread (Some None) h = graph_threads_of _ next h

pub after_ending : (s next : FlowState) (t : ℕ) (graph_thread : GraphThread) (b : Bool) →
    (let step : Option FlowState = if b then None else Some (g.with_graph_thread s t (record graph_thread { ended = true })) in step ≡ Some next) →
    next.graph_threads ≡ slice_set s.graph_threads t (record graph_thread { ended = true })
after_ending s next t graph_thread true h = cc
after_ending s next t graph_thread false h = graph_threads_of _ next h

pub graph_threads_after : (s next : FlowState) (t : ℕ) (graph_thread : GraphThread) (effect : Effect) → g.done s t graph_thread effect ≡ Some next →
    next.graph_threads ≡ slice_set s.graph_threads t (moved graph_thread effect)
graph_threads_after s next t graph_thread (Sets local number at) h = graph_threads_of _ next h
graph_threads_after s next t graph_thread (Owes store at) h = graph_threads_of _ next h
graph_threads_after s next t graph_thread (Makes store at) h = graph_threads_of _ next h
graph_threads_after s next t graph_thread (Goes at) h = graph_threads_of _ next h
graph_threads_after s next t graph_thread (Takes mutex at) h = after_taking s next t mutex at graph_thread (slice_get s.holders mutex) h
graph_threads_after s next t graph_thread (Gives mutex at) h = graph_threads_of _ next h
graph_threads_after s next t graph_thread Ends h = after_ending s next t graph_thread graph_thread.ended h

-- ---- Edges

pub pending_same : (p q : Pending) → Some p ≡ Some q → p ≡ q
pending_same p q h = cc

pub effects_same : (a b : Effect) → Some a ≡ Some b → b ≡ a
effects_same a b h = cc

pub goes_store : (next : ℕ) (graph_thread : GraphThread) (effect : Effect) (p : Option Pending) →
    (let o : Option Effect = elim p [ Some store ↦ Some (Makes store next) | None ↦ None ] in o ≡ Some effect) →
    Contains (next ∷ []) (moved graph_thread effect).at ⊎ (effect ≡ Ends)
goes_store next graph_thread effect None h = cc
goes_store next graph_thread effect (Some store) h =
    let P : Effect → Type 0 = λ z. Contains (next ∷ []) (moved graph_thread z).at ⊎ (z ≡ Ends) in
    subst P (sym (effects_same (Makes store next) effect h)) (inl (0, omega arith, refl))

pub goes_test : (holds fails : ℕ) (graph_thread : GraphThread) (effect : Effect) (b : Bool) → Some (Goes (if b then fails else holds)) ≡ Some effect →
    Contains (holds ∷ fails ∷ []) (moved graph_thread effect).at ⊎ (effect ≡ Ends)
goes_test holds fails graph_thread effect true h =
    let P : Effect → Type 0 = λ z. Contains (holds ∷ fails ∷ []) (moved graph_thread z).at ⊎ (z ≡ Ends) in
    subst P (sym (effects_same (Goes fails) effect h)) (inl (1, omega arith, refl))
goes_test holds fails graph_thread effect false h =
    let P : Effect → Type 0 = λ z. Contains (holds ∷ fails ∷ []) (moved graph_thread z).at ⊎ (z ≡ Ends) in
    subst P (sym (effects_same (Goes holds) effect h)) (inl (0, omega arith, refl))

abbrev pub OnlyNext : ℕ → GraphThread → Effect → Type 0
OnlyNext next graph_thread effect = Contains (next ∷ []) (moved graph_thread effect).at ⊎ (effect ≡ Ends)

-- an effect goes on at one of the node's successors, or it ends
pub goes_by : (a : Action) (seen : Seen) (graph_thread : GraphThread) (effect : Effect) → effect_of a seen ≡ Some effect →
    Contains (successors a) (moved graph_thread effect).at ⊎ (effect ≡ Ends)
goes_by (Eval (e.ToLocal place local kind) value next) seen graph_thread effect h = subst (OnlyNext next graph_thread) (sym (effects_same _ effect h)) (inl
    (0, omega arith, refl))
goes_by (Eval (e.ToVariable place variable kind) value next) seen graph_thread effect h =
    subst (OnlyNext next graph_thread) (sym (effects_same _ effect h)) (inl (0, omega arith, refl))
goes_by (Eval (e.ToElement place variable kind index) value next) seen graph_thread effect h =
    subst (OnlyNext next graph_thread) (sym (effects_same _ effect h)) (inl (0, omega arith, refl))
goes_by (Store variable kind next) seen graph_thread effect h = goes_store next graph_thread effect seen.pending h
goes_by (Test condition holds fails) seen graph_thread effect h = goes_test holds fails graph_thread effect (is_zero (g.number_in seen condition.expr)) h
goes_by (Lock lock next) seen graph_thread effect h = subst (OnlyNext next graph_thread) (sym (effects_same _ effect h)) (inl (0, omega arith, refl))
goes_by (Unlock lock next) seen graph_thread effect h = subst (OnlyNext next graph_thread) (sym (effects_same _ effect h)) (inl (0, omega arith, refl))
goes_by End seen graph_thread effect h = inr (effects_same Ends effect h)

pub after_is : (graph : Graph) (s next : FlowState) (t : ℕ) (st : Stepped graph s next t) (after : GraphThread) → slice_get next.graph_threads t ≡ Some after →
    after ≡ moved st.graph_thread st.effect
after_is graph s next t st after h =
    let there : slice_get next.graph_threads t ≡ Some (moved st.graph_thread st.effect) =
    ap (λ (ws : List GraphThread). slice_get ws t) (graph_threads_after s next t st.graph_thread st.effect st.is)
    ∙ set_same s.graph_threads t (moved st.graph_thread st.effect) st.graph_thread st.found in cc

pub not_again : (s next : FlowState) (t : ℕ) (graph_thread : GraphThread) (b : Bool) → b ≡ true →
    (let step : Option FlowState = if b then None else Some (g.with_graph_thread s t (record graph_thread { ended = true })) in step ≡ Some next) → ⊥
not_again s next t graph_thread true e h = cc
not_again s next t graph_thread false e h = cc

abbrev pub Done : FlowState → FlowState → ℕ → GraphThread → Effect → Type 0
Done s next t graph_thread effect = g.done s t graph_thread effect ≡ Some next

pub steps_go_along_edges : (graph : Graph) (s next : FlowState) (t : ℕ) (graph_thread after : GraphThread) → graph_step graph s t ≡ Some next →
    slice_get s.graph_threads t ≡ Some graph_thread → slice_get next.graph_threads t ≡ Some after → after.ended ≡ graph_thread.ended →
    IsEdge graph graph_thread.at after.at
steps_go_along_edges graph s next t graph_thread after h found there live =
    let st = stepped graph s next t h in
    let same_graph_thread : st.graph_thread ≡ graph_thread = let f = st.found in cc in
    let is = after_is graph s next t st after there in
    elim (goes_by st.node.action (seen_by s st.graph_thread) st.graph_thread st.effect st.does) [
      | inl c ↦
          let P : GraphThread → Type 0 = λ z. IsEdge graph z.at after.at in
          let Q : GraphThread → Type 0 = λ z. Contains (successors st.node.action) z.at in
          subst P same_graph_thread (record { is = st.node; at = st.at; goes = subst Q (sym is) c })
      | inr over ↦
          let ended : after.ended ≡ true = ap (λ (z : GraphThread). z.ended) is ∙ ap (λ (z : Effect). (moved st.graph_thread z).ended) over in
          let was : st.graph_thread.ended ≡ true = ap (λ (z : GraphThread). z.ended) same_graph_thread ∙ (sym live ∙ ended) in
          absurd (not_again s next t st.graph_thread st.graph_thread.ended was (subst (Done s next t st.graph_thread) over st.is))
    ]

-- ---- What every run keeps

-- the store that is pending at a node lies in what the node writes
pub record OwesThere (x : f.Flat) (naming : Naming) (at : ℕ) (p : Pending) : Type 0 where
  pub node : Node
  pub here : slice_get (threads_nodes x x.threads 0) at ≡ Some node
  pub lies : LiesInWritten naming node.writes (stored_element p)

pub record Good (x : f.Flat) (s : FlowState) : Type 0 where
  pub own : (t : ℕ) (graph_thread : GraphThread) → slice_get s.graph_threads t ≡ Some graph_thread → IsOwnNode x t graph_thread.at
  pub source : m.State
  pub matches : Matches x s source
  pub formed : IsStateOf x source
  pub owes : (t : ℕ) (text : f.Thread) (graph_thread : GraphThread) (p : Pending) → slice_get s.graph_threads t ≡ Some graph_thread →
      slice_get x.threads t ≡ Some text → graph_thread.pending ≡ Some p → OwesThere x (naming_of x text graph_thread.locals) graph_thread.at p

pub all_at : {X : Type 0} (P : X → Type 0) (xs : List X) (k : ℕ) (y : X) → AllByRecursion P xs → slice_get xs k ≡ Some y → P y
all_at P [] k y h e = cc
all_at P (x ∷ xs) zero y h e = let is : x ≡ y = cc in subst P is h.0
all_at P (x ∷ xs) (suc k) y h e = all_at P xs k y h.1 e

pub bounded : (x : f.Flat) → IsWellFormed x → (variable : ℕ) (it : Variable) → slice_get x.variables variable ≡ Some it → elements_in it.length ≤ MOST_ELEMENTS
bounded x w variable it h = (all_at (IsVariable x.mutexes) x.variables variable it w.shared.variables h).not_too_long

module _ (x : f.Flat) (w : IsWellFormed x) (s : FlowState) (good : Good x s) (t : ℕ) (graph_thread : GraphThread)
    (found : slice_get s.graph_threads t ≡ Some graph_thread) where
  abbrev all : List Standing
  all = threads_standings x.threads

  abbrev nodes : List Node
  nodes = threads_nodes x x.threads 0

  abbrev Own : m.Thread → Type 0
  Own thread = Pair (λ (u : f.Thread) (own : m.Thread). IsThreadOf x u.locals own) x.threads t thread

  pub record Here : Type 0 where
    pub thread : m.Thread
    pub there : slice_get good.source.threads t ≡ Some thread
    pub match : GraphThreadMatches x graph_thread thread
    pub own : Own thread

  pub here : Here
  here =
      let there = found_in good.source.threads t (omega (arith, good.matches.count, slice_get_within s.graph_threads t graph_thread found)) in
      record {
        thread = there.0;
        there = there.1;
        match = good.matches.each t graph_thread there.0 found there.1;
        own = zip_found (λ (u : f.Thread) (own : m.Thread). IsThreadOf x u.locals own) x.threads good.source.threads t there.0 good.formed.threads there.1;
      }

  abbrev standing : Here → Standing
  standing h = record { left = h.thread.left; owes = is_some h.thread.pending }

  does_at : (h : Here) (node : Node) → slice_get nodes graph_thread.at ≡ Some node → ActionLeads all node.action (standing h)
  does_at h node at =
      let n = node_at x graph_thread.at (standing h) w.threads h.match.stands in
      let same_node : n.0 ≡ node = let e = n.1 in cc in
      let P : Node → Type 0 = λ z. ActionLeads all z.action (standing h) in
      subst P same_node n.2

  free_idle : (h : Here) (rest : List f.Statement) (q : Pending) → standing h ≡ free rest → graph_thread.pending ≡ Some q → ⊥
  free_idle h rest q is p =
      let a : is_some h.thread.pending ≡ false = ap (λ (z : Standing). z.owes) is in
      let b : true ≡ is_some h.thread.pending = ap is_some (sym p ∙ h.match.pending) in cc

  left_formed : (h : Here) (y : f.Statement) (rest : List f.Statement) → standing h ≡ free (y ∷ rest) → IsFlatStatement x h.own.it.locals y
  left_formed h y rest is =
      let left : h.thread.left ≡ y ∷ rest = ap (λ (z : Standing). z.left) is in
      let kept = subst (AllByRecursion (IsStatementLeft x h.own.it.locals)) left h.own.related.left in
      kept.0.1

  test_formed : (h : Here) (condition : e.Placed) (holds fails : ℕ) → ActionLeads all (Test condition holds fails) (standing h) →
      IsFlatPlaced x h.own.it.locals condition
  test_formed h condition holds fails d = elim d [
    | chooses place body arms otherwise rest is a b ↦ (left_formed h (f.If place (f.arm_and condition body arms) otherwise) rest is).1.0
    | repeats place body rest is a b ↦ (left_formed h (f.While place condition body) rest is).0
  ]

  -- what its step follows refers to elements
  followed_here : (h : Here) (y : f.Statement) (rest : List f.Statement) → standing h ≡ free (y ∷ rest) →
      AllByRecursion (λ (z : e.Placed). AreFollowed graph_thread.locals z.expr) (step_exprs y)
  followed_here h y rest is =
      let left : h.thread.left ≡ y ∷ rest = ap (λ (z : Standing). z.left) is in
      subst (λ (ls : List ℤ). AllByRecursion (λ (z : e.Placed). AreFollowed ls z.expr) (step_exprs y)) (sym h.match.locals)
      (references_hold x good.source t h.thread y rest good.formed h.there left)

  test_followed : (h : Here) (condition : e.Placed) (holds fails : ℕ) → ActionLeads all (Test condition holds fails) (standing h) →
      AreFollowed graph_thread.locals condition.expr
  test_followed h condition holds fails d = elim d [
    | chooses place body arms otherwise rest is a b ↦ (followed_here h (f.If place (f.arm_and condition body arms) otherwise) rest is).0
    | repeats place body rest is a b ↦ (followed_here h (f.While place condition body) rest is).0
  ]

  locals_held : (h : Here) → AllZip Holds h.own.it.locals graph_thread.locals
  locals_held h = let P : List ℤ → Type 0 = λ ls. AllZip Holds h.own.it.locals ls in subst P (sym h.match.locals) h.own.related.locals

  variables_held : AllZip AreNumbersOf x.variables s.variables
  variables_held = let P : List (List ℤ) → Type 0 = λ ns. AllZip AreNumbersOf x.variables ns in subst P (sym good.matches.variables) good.formed.variables

  -- ---- Locations

  -- the thread's text, and what its keys name
  abbrev text : f.Thread
  text = here.own.it

  abbrev naming : Naming
  naming = naming_of x text graph_thread.locals

  shaped : (node : Node) → slice_get nodes graph_thread.at ≡ Some node → ShapedBy (table_of x text) nodes node node.action
  shaped node at = own_shaped x t graph_thread.at text node here.own.found (good.own t graph_thread found) at

  reads_lie_by : (node : Node) (a : Action) (one : Element) → ActionLeads all a (standing here) → ShapedBy (table_of x text) nodes node a →
      Contains (reads_of a (seen_by s graph_thread)) one → LiesInOne naming node.reads one
  reads_lie_by node (Eval target value next) one d shape c =
      let formed = left_formed here (f.Assign d.place target value) d.rest d.is in
      let follows = assign_followed graph_thread.locals target value (followed_here here (f.Assign d.place target value) d.rest d.is) in
      let ks = text.locals in
      let P : List Location → Type 0 = λ ls. LiesInOne naming ls one in
      subst P (sym shape.reads) (one_of_both naming (target_elements target (seen_by s graph_thread)) (expr_elements value.expr (seen_by s graph_thread))
      (target_reads (table_of x text) target)
      (expr_reads (table_of x text) value.expr) one
      (lies_target x.variables ks graph_thread.locals s.variables (locals_held here) variables_held (bounded x w) (lock_names x text) target
      graph_thread.pending one
      formed.0.0 formed.0.1 follows.0)
      (lies_expr x.variables ks graph_thread.locals s.variables (locals_held here) variables_held (bounded x w) (lock_names x text) value.expr
      graph_thread.pending one
      formed.1.0 formed.1.1 follows.1) c)
  reads_lie_by node (Store variable kind next) one d shape c = absurd (contains_none one c)
  reads_lie_by node (Test condition holds fails) one d shape c =
      let formed = test_formed here condition holds fails d in
      let P : List Location → Type 0 = λ ls. LiesInOne naming ls one in
      subst P (sym shape.reads)
      (lies_expr x.variables text.locals graph_thread.locals s.variables (locals_held here) variables_held
      (bounded x w) (lock_names x text) condition.expr graph_thread.pending one formed.0 formed.1 (test_followed here condition holds fails d) c)
  reads_lie_by node (Lock lock next) one d shape c = absurd (contains_none one c)
  reads_lie_by node (Unlock lock next) one d shape c = absurd (contains_none one c)
  reads_lie_by node End one d shape c = absurd (contains_none one c)

  pub reads_lie_named : (node : Node) (one : Element) → slice_get nodes graph_thread.at ≡ Some node →
      Contains (reads_of node.action (seen_by s graph_thread)) one →
      LiesInOne naming node.reads one
  reads_lie_named node one at c = reads_lie_by node node.action one (does_at here node at) (shaped node at) c

  stored_lies : (node : Node) (o : Option Pending) (one : Element) → slice_get nodes graph_thread.at ≡ Some node → graph_thread.pending ≡ o →
      option_map stored_element o ≡ Some one → LiesInWritten naming node.writes one
  stored_lies node None one at is h = cc
  stored_lies node (Some p) one at is h =
      let owes = good.owes t text graph_thread p found here.own.found is in
      let same_node : owes.node ≡ node = let e = owes.here in cc in
      let same_one : stored_element p ≡ one = cc in
      let P : Node → Type 0 = λ z. LiesInWritten naming z.writes one in
      let Q : Element → Type 0 = λ z. LiesInWritten naming owes.node.writes z in
      subst P same_node (subst Q same_one owes.lies)

  writes_lie_by : (node : Node) (a : Action) (one : Element) → slice_get nodes graph_thread.at ≡ Some node → write_of a (seen_by s graph_thread) ≡ Some one →
      LiesInWritten naming node.writes one
  writes_lie_by node (Eval target value next) one at h = cc
  writes_lie_by node (Store variable kind next) one at h = stored_lies node graph_thread.pending one at refl h
  writes_lie_by node (Test condition holds fails) one at h = cc
  writes_lie_by node (Lock lock next) one at h = cc
  writes_lie_by node (Unlock lock next) one at h = cc
  writes_lie_by node End one at h = cc

  pub writes_lie_named : (node : Node) (one : Element) → slice_get nodes graph_thread.at ≡ Some node →
      write_of node.action (seen_by s graph_thread) ≡ Some one →
      LiesInWritten naming node.writes one
  writes_lie_named node one at h = writes_lie_by node node.action one at h

  -- ---- Where no mutex is in an array

  pub reads_lie_here : AllByRecursion IsSingle x.mutexes → (node : Node) (one : Element) → slice_get nodes graph_thread.at ≡ Some node →
      Contains (reads_of node.action (seen_by s graph_thread)) one → LiesInOne no_names node.reads one
  reads_lie_here single node one at c =
      let h = reads_lie_named node one at c in
      record {
        location = h.location;
        of = h.of;
        lies = plain_lies x.mutexes x.variables (lock_names x text) graph_thread.locals h.location one single w.shared.variables h.lies;
      }

  pub writes_lie_here : AllByRecursion IsSingle x.mutexes → (node : Node) (one : Element) → slice_get nodes graph_thread.at ≡ Some node →
      write_of node.action (seen_by s graph_thread) ≡ Some one → LiesInWritten no_names node.writes one
  writes_lie_here single node one at c =
      let h = writes_lie_named node one at c in
      record {
        location = h.location;
        of = h.of;
        lies = plain_lies x.mutexes x.variables (lock_names x text) graph_thread.locals h.location one single w.shared.variables h.lies;
      }

  -- ---- The store that is pending after a step

  abbrev Owing : Effect → Type 0
  Owing effect = (q : Pending) → (moved graph_thread effect).pending ≡ Some q →
      OwesThere x (naming_of x text (moved graph_thread effect).locals) (moved graph_thread effect).at q

  owes_stored : (next : ℕ) (effect : Effect) (o : Option Pending) →
      (let step : Option Effect = elim o [ Some store ↦ Some (Makes store next) | None ↦ None ] in step ≡ Some effect) → Owing effect
  owes_stored next effect None h = cc
  owes_stored next effect (Some store) h = subst Owing (sym (effects_same (Makes store next) effect h)) (λ q i. cc)

  owes_by : (node : Node) (a : Action) (effect : Effect) → ActionLeads all a (standing here) → ShapedBy (table_of x text) nodes node a →
      effect_of a (seen_by s graph_thread) ≡ Some effect →
      Owing effect
  owes_by node (Eval (e.ToLocal place local kind) value next) effect d shape is = subst Owing (sym (effects_same _ effect is)) (λ q i. absurd
      (free_idle here _ q d.is i))
  owes_by node (Eval (e.ToVariable place variable kind) value next) effect d shape is = subst Owing (sym (effects_same _ effect is))
      (λ q i.
      let P : Pending → Type 0 = λ z. OwesThere x naming next z in
      subst P (pending_same _ q i) (record {
        node = shape.owed.node;
        here = shape.owed.at;
        lies = record { location = scalar variable; of = shape.owed.writes; lies = lies_scalar naming variable };
      }))
  owes_by node (Eval (e.ToElement place variable kind index) value next) effect d shape is = subst Owing (sym (effects_same _ effect is))
      (λ q i.
      let formed = left_formed here (f.Assign d.place (e.ToElement place variable kind index) value) d.rest d.is in
      let follows = followed_here here (f.Assign d.place (e.ToElement place variable kind index) value) d.rest d.is in
      let P : Pending → Type 0 = λ z. OwesThere x naming next z in
      subst P (pending_same _ q i) (record {
        node = shape.owed.node;
        here = shape.owed.at;
        lies = record {
          location = elements (table_of x text) variable index;
          of = shape.owed.writes;
          lies = lies_element x.variables text.locals graph_thread.locals s.variables (locals_held here) variables_held
              (bounded x w) (lock_names x text) variable kind index.place index.expr
              formed.0.0.0 formed.0.0.1 formed.0.1.0 follows.0;
        };
      }))
  owes_by node (Store variable kind next) effect d shape is = owes_stored next effect graph_thread.pending is
  owes_by node (Test condition holds fails) effect d shape is = subst Owing (sym (effects_same _ effect is))
      (λ q i. elim d [
        | chooses place body arms otherwise rest free a b ↦ absurd (free_idle here _ q free i)
        | repeats place body rest free a b ↦ absurd (free_idle here _ q free i)
      ])
  owes_by node (Lock lock next) effect d shape is = subst Owing (sym (effects_same _ effect is)) (λ q i. absurd (free_idle here _ q d.is i))
  owes_by node (Unlock lock next) effect d shape is = subst Owing (sym (effects_same _ effect is)) (λ q i. absurd (free_idle here _ q d.is i))
  owes_by node End effect d shape is = subst Owing (sym (effects_same _ effect is)) (λ q i. absurd (free_idle here _ q d i))

  pub owes_here : (node : Node) (effect : Effect) → slice_get nodes graph_thread.at ≡ Some node → effect_of node.action (seen_by s graph_thread) ≡ Some effect →
      Owing effect
  owes_here node effect at is = owes_by node node.action effect (does_at here node at) (shaped node at) is

-- ---- Runs

pub nodes_at : (x : f.Flat) (k : ℕ) (node : Node) → NodeAt (lowered x) k node → slice_get (threads_nodes x x.threads 0) k ≡ Some node
nodes_at x k node h = ap (λ (ns : List Node). slice_get ns k) (sym (lowered_nodes x)) ∙ h

pub at_nodes : (x : f.Flat) (k : ℕ) (node : Node) → slice_get (threads_nodes x x.threads 0) k ≡ Some node → NodeAt (lowered x) k node
at_nodes x k node h = ap (λ (ns : List Node). slice_get ns k) (lowered_nodes x) ∙ h

-- a node of a thread's own goes on to nodes of its own
pub own_next : (x : f.Flat) (t at next : ℕ) (node : Node) → IsOwnNode x t at → NodeAt (lowered x) at node → Contains (successors node.action) next →
    IsOwnNode x t next
own_next x t at next node own here goes =
    let part_is : slice_get (parts x.threads 0) t ≡ Some own.part = ap (λ (ps : List Part). slice_get ps t) (sym (lowered_threads x)) ∙ own.of_thread in
    let all = closed_from x x.threads 0 t own.part part_is at node (nodes_at x at node here) (omega (arith, own.from_first)) (omega (arith, own.below_end)) in
    let there = contained own.part.first own.part.end (successors node.action) next all goes in
    record { part = own.part; of_thread = own.of_thread; from_first = there.0; below_end = there.1 }

own_after : (x : f.Flat) (s next : FlowState) (t : ℕ) (st : Stepped (lowered x) s next t) → IsOwnNode x t st.graph_thread.at →
    IsOwnNode x t (moved st.graph_thread st.effect).at
own_after x s next t st own = ⊎_elim
    (λ goes. own_next x t st.graph_thread.at (moved st.graph_thread st.effect).at st.node own st.at goes)
    (λ over. subst (λ (z : Effect). IsOwnNode x t (moved st.graph_thread z).at) (sym over) own)
    (goes_by st.node.action (seen_by s st.graph_thread) st.graph_thread st.effect st.does)

part_some : (ts : List f.Thread) (first k : ℕ) (p : Part) → slice_get (parts ts first) k ≡ Some p → p.first < p.end
part_some [] first k p h = cc
part_some (t ∷ ts) first zero p h = let is : part t first ≡ p = cc in subst (λ (q : Part). q.first < q.end) is (omega arith)
part_some (t ∷ ts) first (suc k) p h = part_some ts (first + thread_count t) k p h

pub matched : (x : f.Flat) (next : FlowState) (o : Option m.State) → StepsMatch x (Some next) o → (after : m.State) × (o ≡ Some after) × Matches x next after
matched x next None h = absurd h
matched x next (Some after) h = (after, refl, h)

pub good_step : (x : f.Flat) (s next : FlowState) (t : ℕ) → IsWellFormed x → Good x s → graph_step (lowered x) s t ≡ Some next → Good x next
good_step x s next t w good h =
    let st = stepped (lowered x) s next t h in
    let P : Option FlowState → Type 0 = λ o. StepsMatch x o (m.source_step good.source t) in
    let after = matched x next (m.source_step good.source t) (subst P h (steps_lockstep x s good.source t w good.matches)) in
    let set = graph_threads_after s next t st.graph_thread st.effect st.is in
    record {
      own = λ k graph_thread there. ⊎_elim
          (λ same_thread.
          let there' : slice_get next.graph_threads t ≡ Some graph_thread = ap (slice_get next.graph_threads) (sym same_thread) ∙ there in
          let is_moved = after_is (lowered x) s next t st graph_thread there' in
          subst (λ (z : GraphThread). IsOwnNode x k z.at) (sym is_moved)
          (subst (λ (j : ℕ). IsOwnNode x j (moved st.graph_thread st.effect).at) (sym same_thread)
          (own_after x s next t st (good.own t st.graph_thread st.found))))
          (λ differs.
          good.own k graph_thread (sym (set_other s.graph_threads t k (moved st.graph_thread st.effect) differs)
          ∙ (ap (λ (ws : List GraphThread). slice_get ws k) (sym set) ∙ there)))
          (cases_eq k t);
      source = after.0;
      matches = after.2;
      formed = stays_so x good.source after.0 t w good.formed after.1;
      owes = λ k text graph_thread p there its is. ⊎_elim
          (λ same_thread.
          let there' : slice_get next.graph_threads t ≡ Some graph_thread = ap (slice_get next.graph_threads) (sym same_thread) ∙ there in
          let is_moved = after_is (lowered x) s next t st graph_thread there' in
          let Q : GraphThread → Type 0 = λ z. OwesThere x (naming_of x text z.locals) z.at p in
          let R : f.Thread → Type 0 = λ z. OwesThere x (naming_of x z (moved st.graph_thread st.effect).locals) (moved st.graph_thread st.effect).at p in
          let own = (here x w s good t st.graph_thread st.found).own in
          let its' : slice_get x.threads t ≡ Some text = ap (slice_get x.threads) (sym same_thread) ∙ its in
          subst Q (sym is_moved) (subst R (same_Some own.it text (sym own.found ∙ its'))
          (owes_here x w s good t st.graph_thread st.found st.node st.effect (nodes_at x st.graph_thread.at st.node st.at) st.does p
          (ap (λ (z : GraphThread). z.pending) (sym is_moved) ∙ is))))
          (λ differs.
          good.owes k text graph_thread p (sym (set_other s.graph_threads t k (moved st.graph_thread st.effect) differs)
          ∙ (ap (λ (ws : List GraphThread). slice_get ws k) (sym set) ∙ there)) its is)
          (cases_eq k t);
    }

pub start_idle : (ps : List Part) (k : ℕ) (graph_thread : GraphThread) → slice_get (map g.graph_thread_start ps) k ≡ Some graph_thread →
    graph_thread.pending ≡ None
start_idle [] k graph_thread h = cc
start_idle (p ∷ ps) zero graph_thread h = let is : g.graph_thread_start p ≡ graph_thread = cc in ap (λ (z : GraphThread). z.pending) (sym is)
start_idle (p ∷ ps) (suc k) graph_thread h = start_idle ps k graph_thread h

part_from : (ts : List f.Thread) (first k : ℕ) (graph_thread : GraphThread) → slice_get (map g.graph_thread_start (parts ts first)) k ≡ Some graph_thread →
    (p : Part) × (slice_get (parts ts first) k ≡ Some p) × (graph_thread ≡ g.graph_thread_start p)
part_from [] first k graph_thread h = cc
part_from (t ∷ ts) first zero graph_thread h = (part t first, refl, cc)
part_from (t ∷ ts) first (suc k) graph_thread h = part_from ts (first + thread_count t) k graph_thread h

pub good_start : (x : f.Flat) → IsWellFormed x → Good x (graph_start (lowered x) x)
good_start x w = record {
  own = λ k graph_thread there.
      let found : slice_get (map g.graph_thread_start (parts x.threads 0)) k ≡ Some graph_thread =
      ap (λ (ps : List Part). slice_get (map g.graph_thread_start ps) k) (sym (lowered_threads x)) ∙ there in
      let from = part_from x.threads 0 k graph_thread found in
      subst (λ (z : GraphThread). IsOwnNode x k z.at) (sym from.2) (record {
        part = from.0;
        of_thread = ap (λ (ps : List Part). slice_get ps k) (lowered_threads x) ∙ from.1;
        from_first = omega arith;
        below_end = part_some x.threads 0 k from.0 from.1;
      });
  source = m.start x;
  matches = begins_lockstep x w;
  formed = begins_so x w;
  owes = λ t text graph_thread p there its is. let none = start_idle (lowered x).threads t graph_thread there in cc;
}

abbrev pub after_by : Graph → FlowState → List ℕ → Option FlowState → FlowState
after_by graph s ts o = elim o [
  | None ↦ s
  | Some next ↦ graph_after graph next ts
]

pub good_by : (x : f.Flat) (s : FlowState) (t : ℕ) (ts : List ℕ) (o : Option FlowState) → IsWellFormed x → Good x s → graph_step (lowered x) s t ≡ o →
    ((next : FlowState) → Good x next → Good x (graph_after (lowered x) next ts)) → Good x (after_by (lowered x) s ts o)
good_by x s t ts None w good h more = good
good_by x s t ts (Some next) w good h more = more next (good_step x s next t w good h)

pub good_after : (x : f.Flat) (schedule : List ℕ) → IsWellFormed x → (s : FlowState) → Good x s → Good x (graph_after (lowered x) s schedule)
good_after x [] w s good = good
good_after x (t ∷ ts) w s good = good_by x s t ts (graph_step (lowered x) s t) w good refl (good_after x ts w)

pub good_reached : (x : f.Flat) (s : FlowState) → IsWellFormed x → IsReachedFlow x s → Good x s
good_reached x s w r = subst (Good x) (sym r.is) (good_after x r.schedule w (graph_start (lowered x) x) (good_start x w))

-- what a node reads lies in its locations, and what it writes in its location, by what the keys of the thread's text name
module _ (x : f.Flat) (w : IsWellFormed x) (s : FlowState) (good : Good x s) (t : ℕ) (text : f.Thread) (its : slice_get x.threads t ≡ Some text) where
  pub reads_lie_at : (graph_thread : GraphThread) (node : Node) (one : Element) → slice_get s.graph_threads t ≡ Some graph_thread →
      NodeAt (lowered x) graph_thread.at node → Contains (reads_of node.action (seen_by s graph_thread)) one →
      LiesInOne (naming_of x text graph_thread.locals) node.reads one
  reads_lie_at graph_thread node one found at c =
      let own = (here x w s good t graph_thread found).own in
      subst (λ (z : f.Thread). LiesInOne (naming_of x z graph_thread.locals) node.reads one) (same_Some own.it text (sym own.found ∙ its))
      (reads_lie_named x w s good t graph_thread found node one (nodes_at x graph_thread.at node at) c)

  pub writes_lie_at : (graph_thread : GraphThread) (node : Node) (one : Element) → slice_get s.graph_threads t ≡ Some graph_thread →
      NodeAt (lowered x) graph_thread.at node → write_of node.action (seen_by s graph_thread) ≡ Some one →
      LiesInWritten (naming_of x text graph_thread.locals) node.writes one
  writes_lie_at graph_thread node one found at h =
      let own = (here x w s good t graph_thread found).own in
      subst (λ (z : f.Thread). LiesInWritten (naming_of x z graph_thread.locals) node.writes one) (same_Some own.it text (sym own.found ∙ its))
      (writes_lie_named x w s good t graph_thread found node one (nodes_at x graph_thread.at node at) h)

pub reads_lie : ReadsLie
reads_lie x s thread text graph_thread node read w st its c =
    reads_lie_at x w s (good_reached x s w st.reached) thread text its graph_thread node read st.found st.at c

pub writes_lie : WritesLie
writes_lie x s thread text graph_thread node written w st its h =
    writes_lie_at x w s (good_reached x s w st.reached) thread text its graph_thread node written st.found st.at h
