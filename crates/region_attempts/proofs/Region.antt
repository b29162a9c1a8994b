-- A longest attempt is a path within a region of the graph.
use Rattle.std.proofs.Common.{◌≡◌, ◌≢◌, ◌⊎◌, inl, inr, refl, ℕ, zero, suc, ◌<◌, List, [], ◌∷◌, replicate}
use Rattle.c_tree.specs.Exprs as e
use Rattle.c_tree.specs.Exprs.{LockName}
use Rattle.ido_base.specs.declared.place.Place.{Place}
use Rattle.ido_ints.specs.declared.kinds.Kind.{Kind}
use Rattle.std.proofs.Common.{sym, ◌∙◌, ap, subst, arith, Option, Some, None, Bool, true, false, ⊎_elim}
use Rattle.std.specs.Prelude.{slice_get, Contains, IsTrue}
use Rattle.std.specs.Option.{option_map, unwrap_or}
use Rattle.ido_base.specs.declared.location.Location.{Location}
use Rattle.ido_base.specs.Locations.{overlap, same}
use Rattle.c_tree.specs.Flats as f
use Rattle.flow_graph.specs.Nodes.{Action, Eval, Lock, Unlock, Node, Graph, successors}
use Rattle.flow_graph.specs.Lowering.{lowered, threads_nodes}
use Rattle.flow_graph.specs.Liveness.{NodeAt}
use Rattle.flow_graph.specs.Actions.{GraphThread, FlowState, Ends, effect_of, seen_by}
use Rattle.flow_graph.specs.IdempotentCuts.{Boundaries, IsEdge, IsLock, locks, IsUnlock, unlocks, HasBefore, IsBoundary, BeginsRegion}
use Rattle.flow_graph.specs.IdempotentCuts.{at_boundary, IsInside, stays, goes_on, ReadsAt, WritesAt, IsWrittenBefore, AreCuts}
use Rattle.flow_graph.proofs.Public.{ShapedBy, node_shaped, Stepped, stepped, moved, goes_by, after_is, not_again, Done, nodes_at}
use Rattle.recovery_semantics.specs.Attempts.{solo}
use Rattle.recovery_semantics.specs.Configs.{attempt_of}
use Rattle.recovery_semantics.proofs.Public.{none_some}
use Rattle.region_attempts.specs.GraphStates.{flow_solo, node_after}
use Rattle.region_attempts.specs.AttemptsInRegion.{AssignsLocal, Resumes, begins, past_assignment, past_unlock, StaysInside}
use Rattle.region_attempts.proofs.StepBisimulation.{IsThere, is_there}
use Rattle.region_attempts.proofs.GraphConfigs.{GraphConfig}
use Rattle.region_attempts.proofs.GraphRuns.{OwnStep, own_step, inner_runs, matched_run}
use Rattle.region_attempts.proofs.Nodes.{locks_at, ends_only}

-- ---- Lists of nodes

abbrev pub listed : (ℕ → ℕ) → (count : ℕ) → List ℕ
listed at zero = []
listed at (suc n) = at 0 ∷ listed (λ k. at (suc k)) n

pub listed_at : (at : ℕ → ℕ) (n k : ℕ) → k < n → slice_get (listed at n) k ≡ Some (at k)
listed_at at zero k l = absurd (omega (arith, l))
listed_at at (suc n) zero l = refl
listed_at at (suc n) (suc k) l = listed_at (λ j. at (suc j)) n k (omega (arith, l))

inside_by : (g : Graph) (b : Boundaries) (at : ℕ → ℕ) (n : ℕ) → ((k : ℕ) → suc k < suc n → IsEdge g (at k) (at (suc k))) →
    ((k : ℕ) → suc k < suc n → ¬ (IsBoundary g b (at k) (at (suc k)))) → IsInside g b (listed at (suc n))
inside_by g b at zero edge free = stays (at 0)
inside_by g b at (suc n) edge free =
    goes_on (at 0) (at 1) (listed (λ k. at (suc (suc k))) n) (edge 0 (omega arith)) (free 0 (omega arith))
    (inside_by g b (λ k. at (suc k)) n (λ k l. edge (suc k) (omega (arith, l))) (λ k l. free (suc k) (omega (arith, l))))

-- ---- Where a path begins

pub decide_true : (o : Option Bool) → (o ≡ Some true) ⊎ (o ≢ Some true)
decide_true None = inr (λ h. cc)
decide_true (Some true) = inl refl
decide_true (Some false) = inr (λ h. cc)

pub one_node : (g : Graph) (k : ℕ) (n o : Node) → NodeAt g k n → NodeAt g k o → n ≡ o
one_node g k n o h i = cc

lock_or_unlock : (lock other : LockName) (next after : ℕ) → Lock lock next ≡ Unlock other after → ⊥
lock_or_unlock lock other next after h = cc

not_lock : (g : Graph) (k : ℕ) → IsLock g k → IsUnlock g k → ⊥
not_lock g k (locks n lock next at is) (unlocks o other after at' is') =
    lock_or_unlock lock other next after (sym is ∙ (ap (λ (z : Node). z.action) (one_node g k n o at at') ∙ is'))

unlock_writes_none : (x : f.Flat) (k : ℕ) (node : Node) → IsUnlock (lowered x) k → NodeAt (lowered x) k node → node.writes ≡ None
unlock_writes_none x k node (unlocks n lock next at is) here =
    let same_node = one_node (lowered x) k n node at here in
    let shape = node_shaped x k n (nodes_at x k n at) in
    let none : n.writes ≡ None = subst (λ (a : Action). ShapedBy shape.0 (threads_nodes x x.threads 0) n a) is shape.1 in
    ap (λ (z : Node). z.writes) (sym same_node) ∙ none

-- nor does an assignment of a local
assigns_or_lock : (lock : LockName) (next after : ℕ) (place : Place) (local : ℕ) (kind : Kind) (value : e.Placed) →
    Lock lock next ≡ Eval (e.ToLocal place local kind) value after → ⊥
assigns_or_lock lock next after place local kind value h = cc

assigns_no_lock : (g : Graph) (k : ℕ) → IsLock g k → AssignsLocal g k → ⊥
assigns_no_lock g k (locks n lock next at is) a =
    assigns_or_lock lock next a.next a.place a.local a.kind a.value
    (sym is ∙ (ap (λ (z : Node). z.action) (one_node g k n a.is at a.at) ∙ a.action))

assigns_writes_none : (x : f.Flat) (k : ℕ) (node : Node) → AssignsLocal (lowered x) k → NodeAt (lowered x) k node → node.writes ≡ None
assigns_writes_none x k node a here =
    let same_node = one_node (lowered x) k a.is node a.at here in
    let shape = node_shaped x k a.is (nodes_at x k a.is a.at) in
    let shaped : ShapedBy shape.0 (threads_nodes x x.threads 0) a.is (Eval (e.ToLocal a.place a.local a.kind) a.value a.next) =
    subst (λ (z : Action). ShapedBy shape.0 (threads_nodes x x.threads 0) a.is z) a.action shape.1 in
    ap (λ (z : Node). z.writes) (sym same_node) ∙ shaped.writes

-- what is read at a place of a path is overwritten later on it
pub record IsOverwritten (g : Graph) (path : List ℕ) (i : ℕ) (read : Location) : Type 0 where
  pub later : ℕ
  pub written : Location
  pub above : i < later
  pub reads : ReadsAt g path i read
  pub writes : WritesAt g path later written
  pub meet : IsTrue (overlap written read)

module _ (x : f.Flat) (b : Boundaries) (cuts : AreCuts (lowered x) b) (first : ℕ) (rest : List ℕ) (inside : IsInside (lowered x) b (first ∷ rest))
    (i : ℕ) (read : Location) (o : IsOverwritten (lowered x) (first ∷ rest) i read) where
  abbrev g : Graph
  g = lowered x

  abbrev Before : Type 0
  Before = IsWrittenBefore g (first ∷ rest) i read

  at_begin : BeginsRegion g b first → Before
  at_begin h = cuts.idempotent first rest h inside i o.later read o.written o.above o.reads o.writes o.meet

  -- a node that takes no mutex, and writes nothing
  record IsQuiet (from : ℕ) : Type 0 where
    no_lock : IsLock g from → ⊥
    none : (node : Node) → NodeAt g from node → node.writes ≡ None

  after_by : (from : ℕ) → IsQuiet from → (q : ℕ) (l : Location) → q < suc i → WritesAt g (from ∷ first ∷ rest) q l → IsTrue (same l read) → Before
  after_by from u zero l low wr is =
      let here : from ≡ wr.node = let h = wr.there in cc in
      let at : NodeAt g from wr.is = ap (slice_get g.nodes) here ∙ wr.at in
      absurd (none_some l (sym (u.none wr.is at) ∙ wr.writes))
  after_by from u (suc q) l low wr is = record {
    earlier = q;
    written = l;
    before = omega (arith, low);
    writes = record { node = wr.node; is = wr.is; there = wr.there; at = wr.at; writes = wr.writes };
    is = is;
  }

  after : (from : ℕ) → IsQuiet from → HasBefore b from → IsEdge g from first → ¬ (HasBefore b first) → Before
  after from u stands edge free =
      let longer = goes_on from first rest edge (λ p. ⊎_elim (λ h. u.no_lock h.locks) free p) inside in
      let before = cuts.idempotent from (first ∷ rest) (at_boundary stands) longer (suc i) (suc o.later) read o.written
      (let above = o.above in omega (arith, above))
      (record { node = o.reads.node; is = o.reads.is; there = o.reads.there; at = o.reads.at; reads = o.reads.reads })
      (record { node = o.writes.node; is = o.writes.is; there = o.writes.there; at = o.writes.at; writes = o.writes.writes }) o.meet in
      after_by from u before.earlier before.written before.before before.writes before.is

  -- from a node after it, before which none stands or one does
  past : (from : ℕ) → IsQuiet from → HasBefore b from → IsEdge g from first → Before
  past from u stands edge =
      ⊎_elim (λ h. at_begin (at_boundary h)) (λ free. after from u stands edge free) (decide_true (slice_get b.before first))

  -- what is overwritten was written before where a region begins, and after an unlock too, or an assignment
  pub written_before : Resumes g b first → Before
  written_before (begins h) = at_begin h
  written_before (past_unlock from u edge) =
      past from (record { no_lock = λ l. not_lock g from l u; none = λ node at. unlock_writes_none x from node u at }) (cuts.before_unlocks from u) edge
  written_before (past_assignment from stands assigns edge) =
      past from (record { no_lock = λ l. assigns_no_lock g from l assigns; none = λ node at. assigns_writes_none x from node assigns at }) stands edge

-- ---- The longest attempt

module _ (x : f.Flat) (c : GraphConfig x) (t : ℕ) where
  abbrev pub longest : ℕ
  longest = (attempt_of c.config t).longest

  pub own : (k : ℕ) → k < longest → OwnStep x c.flow t k
  own k l =
      let tried = c.invariant.tried t in
      let step = tried.inner k l in
      own_step x c.formed c.flow c.config.kept step.next t k c.matches (inner_runs k longest c.config.kept t tried.inner (omega (arith, l))) step.is

  -- what the thread does there
  pub made_there : (k : ℕ) (l : k < longest) → Stepped (lowered x) (flow_solo x c.flow t k) (own k l).next t
  made_there k l = stepped (lowered x) (flow_solo x c.flow t k) (own k l).next t (own k l).is

  abbrev pub number : ℕ → ℕ
  number k = unwrap_or (node_after x c.flow t k) 0

  pub boundary_after_is : (k : ℕ) (l : k < longest) → node_after x c.flow t k ≡ Some (made_there k l).graph_thread.at
  boundary_after_is k l = ap (option_map (λ (z : GraphThread). z.at)) (made_there k l).found

  pub number_is : (k : ℕ) (l : k < longest) → number k ≡ (made_there k l).graph_thread.at
  number_is k l = ap (λ (o : Option ℕ). unwrap_or o 0) (boundary_after_is k l)

  pub is_number : (k : ℕ) → k < longest → node_after x c.flow t k ≡ Some (number k)
  is_number k l = boundary_after_is k l ∙ ap Some (sym (number_is k l))

  pub there_at : (k : ℕ) (l : k < longest) → IsThere x (solo c.config.kept t k) t (made_there k l).graph_thread (made_there k l).node
  there_at k l =
      let st = made_there k l in
      is_there x c.formed t (flow_solo x c.flow t k) (solo c.config.kept t k) (matched_run x c.formed (replicate k t) c.flow c.config.kept c.matches)
      st.graph_thread st.node st.found st.at

  ended_once : (k : ℕ) (l : k < longest) (n : suc k < longest) → (made_there (suc k) n).graph_thread ≡ moved (made_there k l).graph_thread Ends →
      (made_there k l).effect ≡ Ends → ⊥
  ended_once k l n is over =
      let a = made_there k l in
      let d = made_there (suc k) n in
      let same_at : d.graph_thread.at ≡ a.graph_thread.at = ap (λ (z : GraphThread). z.at) is in
      let same_node : d.node ≡ a.node = let h = d.at in let j = a.at in let e = ap (slice_get (lowered x).nodes) same_at in cc in
      let does : effect_of a.node.action (seen_by (flow_solo x c.flow t (suc k)) d.graph_thread) ≡ Some d.effect =
      subst (λ (z : Node). effect_of z.action (seen_by (flow_solo x c.flow t (suc k)) d.graph_thread) ≡ Some d.effect) same_node d.does in
      let again : d.effect ≡ Ends =
      ends_only a.node.action (seen_by (flow_solo x c.flow t k) a.graph_thread) (seen_by (flow_solo x c.flow t (suc k)) d.graph_thread) d.effect
      (a.does ∙ ap Some over) does in
      let ended : d.graph_thread.ended ≡ true = ap (λ (z : GraphThread). z.ended) is in
      not_again (flow_solo x c.flow t (suc k)) (own (suc k) n).next t d.graph_thread d.graph_thread.ended ended
      (subst (Done (flow_solo x c.flow t (suc k)) (own (suc k) n).next t d.graph_thread) again d.is)

  pub edge : (k : ℕ) → suc k < longest → IsEdge (lowered x) (number k) (number (suc k))
  edge k n =
      let l : k < longest = omega (arith, n) in
      let a = made_there k l in
      let d = made_there (suc k) n in
      let there : slice_get (own k l).next.graph_threads t ≡ Some d.graph_thread =
      ap (λ (s : FlowState). slice_get s.graph_threads t) (sym (own k l).after) ∙ d.found in
      let is = after_is (lowered x) (flow_solo x c.flow t k) (own k l).next t a d.graph_thread there in
      elim (goes_by a.node.action (seen_by (flow_solo x c.flow t k) a.graph_thread) a.graph_thread a.effect a.does) [
        | inl goes ↦
            let to : Contains (successors a.node.action) d.graph_thread.at =
            subst (λ (z : GraphThread). Contains (successors a.node.action) z.at) (sym is) goes in
            let found : IsEdge (lowered x) a.graph_thread.at d.graph_thread.at = record { is = a.node; at = a.at; goes = to } in
            let from_number : IsEdge (lowered x) (number k) d.graph_thread.at =
            subst (λ (z : ℕ). IsEdge (lowered x) z d.graph_thread.at) (sym (number_is k l)) found in
            subst (λ (z : ℕ). IsEdge (lowered x) (number k) z) (sym (number_is (suc k) n)) from_number
        | inr over ↦ absurd (ended_once k l n (is ∙ ap (moved a.graph_thread) over) over)
      ]

  -- the attempt comes to no lock
  pub no_lock_there : (k : ℕ) → k < longest → IsLock (lowered x) (number k) → ⊥
  no_lock_there k l (locks node lock next at is) =
      let a = made_there k l in
      let here : NodeAt (lowered x) (number k) a.node = ap (slice_get (lowered x).nodes) (number_is k l) ∙ a.at in
      let action : a.node.action ≡ Lock lock next = ap (λ (z : Node). z.action) (one_node (lowered x) (number k) a.node node here at) ∙ is in
      let step = (c.invariant.tried t).inner k l in
      none_some _ (sym step.locks_none ∙ locks_at x (solo c.config.kept t k) t a.graph_thread a.node (there_at k l) lock next action)

  module _ (b : Boundaries) (stays_in : StaysInside x b c.flow c.config t) where
    pub free : (k : ℕ) → suc k < longest → ¬ (IsBoundary (lowered x) b (number k) (number (suc k)))
    free k n p = ⊎_elim
        (λ h. no_lock_there k (omega (arith, n)) h.locks)
        (λ h. stays_in.inside (suc k) (number (suc k)) (omega arith) n (is_number (suc k) n) h)
        p

    -- the nodes up to one of them
    pub inside_region : (k : ℕ) → k < longest → IsInside (lowered x) b (listed number (suc k))
    inside_region k l = inside_by (lowered x) b number k (λ j n. edge j (omega (arith, l, n))) (λ j n. free j (omega (arith, l, n)))
