-- Boundaries that a thread's steps pass, beside those whose point its hart has stored: what events add to the ones and to the others.
use Rattle.std.specs.Prelude.{◌⊎◌}
use Rattle.crash_simulation.proofs.Common.{Record, cond-false, is_some, ◌≡◌, ◌≢◌, ℕ, List, ◌∷◌, sym, ◌∙◌, ap, arith, subst, true, false, Option, Some, None}
use Rattle.crash_simulation.proofs.Common.{refl, suc, zero, ◌+◌, ◌-◌, ◌<◌, [], Bool, inl, inr, ◌==◌, ◌&&◌, not, slice_get, true≢false, none-some, same_Some}
use Rattle.crash_simulation.proofs.Common.{option_map, cases_Bool, LockName, Pending, locks, unlocks, Step, World, stores_point, GraphThread, FlowState}
use Rattle.crash_simulation.proofs.Common.{graph_step, graph_after, IsChosen, IsUnlock, NodeAt, lowered, Action, Store, Node, Graph, Eval, Test, Lock, End}
use Rattle.crash_simulation.proofs.Common.{Unlock, store_ahead, now, attempt_of, Attempt, steps_begun, stores, IsGoing, persists, steps_locally, synchronises}
use Rattle.crash_simulation.proofs.Common.{commits, crashes, counted_own, counted_other, unequal_of, equal_self, flow_now, node_of, node_after, is_there}
use Rattle.crash_simulation.proofs.Common.{IsThere, StoresHere, owing_at, locking_at, unlocking_at, same_or_other, Code, AbstractRun, kept_of, now_of}
use Rattle.crash_simulation.proofs.Common.{is_bound, begins, OwnStep, StepsOrStutters, with_ghost, stays, goes, abstract_next, one_if, Simulates, System}
use Rattle.crash_simulation.proofs.Common.{IsSystem, flat_of, ThreadGhost, ThreadInv, InFragment, ExitPoint, threads_standings, Standing, Statement}
use Rattle.crash_simulation.proofs.Common.{ActionLeads, ℤ}
use Rattle.std.specs.Prelude.{if◌then◌else◌, slice_index_or}
use Rattle.recovery_semantics.specs.Attempts.{PassesMutex}
use Rattle.flow_graph.specs.Actions.{graph_runs}
use Rattle.flow_graph.specs.IdempotentCuts.{Boundaries}
use Rattle.flow_graph.specs.IdempotentCuts as cuts
use Rattle.flow_graph.proofs.Public.{Stepped, stepped}
use Rattle.source_machine.proofs.Public.{locks_found}
use Rattle.source_machine.specs.Mutexes.{first_lock}
use Rattle.c_tree.specs.Values.{lock_number}
use Rattle.crash_simulation.specs.BoundaryPassages.{passes_boundary, passages_by, passages_at, passages}
use Rattle.crash_simulation.proofs.AccountUpdates.{begun_by}
use Rattle.crash_simulation.proofs.ChosenNodes.{WritesHere, assigns_there, chosen_there as chosen_node, chosen_writes, stores_there}
use Rattle.crash_simulation.specs.InstructionSteps.{IsTold}
use Rattle.crash_simulation.specs.ThreadGhosts.{tells_write}
use Rattle.crash_simulation.proofs.GraphAfterBegin.{alone, follows_on, matches_now}
use Rattle.crash_simulation.proofs.LocksAfterStep.{own_ghost, other_ghost}
use Rattle.crash_simulation.proofs.NodeEffects.{IsAtNode, ahead_is, unlocks_it}
use Rattle.crash_simulation.proofs.PendingReleases.{IsAtBoundary, at_keeps, at_took, at_gives, under_way}
use Rattle.crash_simulation.proofs.StatesMatchSource.{resumed}

-- ---- Locks

locks_if : (ls : List ℤ) (all : List Standing) (left : List Statement) (lock : LockName) (next : ℕ) (p : Option Pending) →
    ActionLeads all (Lock lock next) (record { left = left; owes = is_some p }) →
    (let ahead : Option ℕ = elim p [ Some store ↦ None | None ↦ first_lock ls left ] in ahead ≡ Some (lock_number ls lock))
locks_if ls all left lock next None d = ap (first_lock ls) (ap (λ (z : Standing). z.left) d.is)
locks_if ls all left lock next (Some store) d = let b : true ≡ false = ap (λ (z : Standing). z.owes) d.is in cc

-- ---- Chosen nodes

-- whether a boundary stands before a node by choice, by what the node does, and by whether one stands there
abbrev pub is_chosen : Action → (stands : Bool) → Bool
is_chosen (Lock lock next) stands = false
is_chosen (Unlock lock next) stands = false
is_chosen (Eval target value next) stands = stands
is_chosen (Store variable kind next) stands = stands
is_chosen (Test condition holds fails) stands = stands
is_chosen End stands = stands

abbrev pub chosen_by : (stands : Bool) → Option Node → ℕ
chosen_by stands None = 0
chosen_by stands (Some is) = one_if (is_chosen is.action stands)

abbrev pub chosen_at : Graph → Boundaries → (node : Option ℕ) → ℕ
chosen_at g b None = 0
chosen_at g b (Some node) = chosen_by (slice_index_or b.before node false) (slice_get g.nodes node)

never_chosen : (a : Action) → is_chosen a false ≡ false
never_chosen (Lock lock next) = refl
never_chosen (Unlock lock next) = refl
never_chosen (Eval target value next) = refl
never_chosen (Store variable kind next) = refl
never_chosen (Test condition holds fails) = refl
never_chosen End = refl

stands_if : (a : Action) (stands : Bool) → is_chosen a stands ≡ true → stands ≡ true
stands_if a true e = refl
stands_if a false e = absurd (true≢false (sym e ∙ never_chosen a))

-- at a node that neither locks nor unlocks
free_passes : (a : Action) (stands : Bool) → ((lock : LockName) (next : ℕ) → a ≡ Lock lock next → ⊥) →
    ((lock : LockName) (next : ℕ) → a ≡ Unlock lock next → ⊥) → passes_boundary a stands ≡ is_chosen a stands
free_passes (Lock lock next) stands no_lock no_unlock = absurd (no_lock lock next refl)
free_passes (Unlock lock next) stands no_lock no_unlock = absurd (no_unlock lock next refl)
free_passes (Eval target value next) stands no_lock no_unlock = refl
free_passes (Store variable kind next) stands no_lock no_unlock = refl
free_passes (Test condition holds fails) stands no_lock no_unlock = refl
free_passes End stands no_lock no_unlock = refl

stood_before : (xs : List Bool) (k : ℕ) → slice_index_or xs k false ≡ true → slice_get xs k ≡ Some true
stood_before [] k h = absurd (true≢false (sym h))
stood_before (x ∷ xs) zero h = ap Some h
stood_before (x ∷ xs) (suc k) h = stood_before xs k h

stands_before : (xs : List Bool) (k : ℕ) → slice_get xs k ≡ Some true → slice_index_or xs k false ≡ true
stands_before [] k h = absurd (none-some true h)
stands_before (x ∷ xs) zero h = same_Some x true h
stands_before (x ∷ xs) (suc k) h = stands_before xs k h

module _ (y : System) (s : IsSystem y) where
  abbrev pub stands_at : ℕ → Bool
  stands_at node = slice_index_or y.plan.boundaries.before node false

  abbrev pub chosen_here : (node : Option ℕ) → ℕ
  chosen_here = chosen_at (lowered (flat_of y)) y.plan.boundaries

  chosen_there : (node : ℕ) (is : Node) → NodeAt (lowered (flat_of y)) node is → is_chosen is.action (stands_at node) ≡ true →
      IsChosen y.plan.graph y.plan.boundaries node
  chosen_there node is at chosen = record { stands = stood_before y.plan.boundaries.before node (stands_if is.action (stands_at node) chosen); free = free }
    where
      at_plan : NodeAt y.plan.graph node is
      at_plan = subst (λ (g : Graph). NodeAt g node is) (sym s.plan.lowered) at

      free : IsUnlock y.plan.graph node → ⊥
      free (cuts.unlocks x lock next there action) =
          let here : is.action ≡ Unlock lock next = ap (λ (z : Node). z.action) (same_Some is x (sym at_plan ∙ there)) ∙ action in
          true≢false (sym chosen ∙ ap (λ (a : Action). is_chosen a (stands_at node)) here)

  pub chosen_none : (node : ℕ) → ¬ (IsChosen y.plan.graph y.plan.boundaries node) → chosen_here (Some node) ≡ 0
  chosen_none node plain = by (slice_get (lowered (flat_of y)).nodes node) refl
    where
      by : (o : Option Node) → slice_get (lowered (flat_of y)).nodes node ≡ o → chosen_by (stands_at node) o ≡ 0
      by None e = refl
      by (Some is) e = elim (cases_Bool (is_chosen is.action (stands_at node))) [
        | inl chosen ↦ absurd (plain (chosen_there node is e chosen))
        | inr none ↦ ap one_if none
      ]

  pub chosen_one : (node : ℕ) → IsChosen y.plan.graph y.plan.boundaries node → chosen_here (Some node) ≡ 1
  chosen_one node chosen =
      let z = chosen_node y s node chosen in
      let at : NodeAt (lowered (flat_of y)) node z.0 = subst (λ (g : Graph). NodeAt g node z.0) s.plan.lowered z.1 in
      ap (chosen_by (stands_at node)) at
      ∙ (by z.0.action (chosen_writes y s node z.0 z.1 chosen) ∙ ap one_if (stands_before y.plan.boundaries.before node chosen.stands))
    where
      by : (action : Action) → WritesHere action → one_if (is_chosen action (stands_at node)) ≡ one_if (stands_at node)
      by action (stores_there t) = ap (λ (a : Action). one_if (is_chosen a (stands_at node))) t.is
      by action (assigns_there t) = ap (λ (a : Action). one_if (is_chosen a (stands_at node))) t.is

  -- one stands there, or none does
  pub stands_or_not : (node : ℕ) → (IsChosen y.plan.graph y.plan.boundaries node) ⊎ ¬ (IsChosen y.plan.graph y.plan.boundaries node)
  stands_or_not node = by (slice_get (lowered (flat_of y)).nodes node) refl
    where
      by : (o : Option Node) → slice_get (lowered (flat_of y)).nodes node ≡ o →
          (IsChosen y.plan.graph y.plan.boundaries node) ⊎ ¬ (IsChosen y.plan.graph y.plan.boundaries node)
      by None e = inr (λ chosen. let zeroth : chosen_here (Some node) ≡ 0 = ap (chosen_by (stands_at node)) e in omega (arith, chosen_one node chosen, zeroth))
      by (Some is) e = elim (cases_Bool (is_chosen is.action (stands_at node))) [
        | inl chosen ↦ inl (chosen_there node is e chosen)
        | inr none ↦ inr (λ chosen.
            let zeroth : chosen_here (Some node) ≡ 0 = ap (chosen_by (stands_at node)) e ∙ ap one_if none in omega (arith, chosen_one node chosen, zeroth))
      ]

-- ---- What is passed by one step

module _ (g : Graph) (b : Boundaries) (s : FlowState) (t n : ℕ) where
  abbrev then_passed : Option FlowState → ℕ
  then_passed o = elim o [
    | None ↦ 0
    | Some next ↦ (if t == n then passages_at g b (node_of s n) else 0) + passages g b next [] n
  ]

  pub none_passed : n ≢ t → passages g b s (t ∷ []) n ≡ 0
  none_passed other = by (graph_step g s t)
    where
      by : (o : Option FlowState) → then_passed o ≡ 0
      by None = refl
      by (Some next) = ap (λ (own : Bool). (if own then passages_at g b (node_of s n) else 0) + 0) (unequal_of t n (λ e. other (sym e)))

own_passed : (g : Graph) (b : Boundaries) (s next : FlowState) (t : ℕ) → graph_step g s t ≡ Some next →
    passages g b s (t ∷ []) t ≡ passages_at g b (node_of s t)
own_passed g b s next t step =
    ap (then_passed g b s t t) step
    ∙ (ap (λ (own : Bool). (if own then passages_at g b (node_of s t) else 0) + 0) (equal_self t)
    ∙ (let e : passages_at g b (node_of s t) + 0 ≡ passages_at g b (node_of s t) = omega arith in e))

-- ---- What a thread has passed beyond its kept steps, and what its hart has stored

-- the boundaries that steps pass which are begun and not kept: the one before the first of them, where that stands by choice, and that of a lock or an unlock
abbrev pub ahead_by : (begun done chosen : ℕ) → ℕ
ahead_by zero done chosen = 0
ahead_by (suc k) done chosen = chosen + (suc k - done)

ahead_some : (begun done chosen : ℕ) → 0 < begun → ahead_by begun done chosen ≡ chosen + (begun - done)
ahead_some zero done chosen some = absurd (omega (arith, some))
ahead_some (suc k) done chosen some = refl

-- what a thread's kept record tells of a write that comes: the boundary before it is passed, and the step isn't kept
abbrev pub told_of : ThreadGhost → ℕ
told_of c = one_if (tells_write c)

module _ (y : System) where
  abbrev pub passages_ahead : AbstractRun y → (told : ℕ) → (thread : ℕ) → ℕ
  passages_ahead b told n = ahead_by (steps_begun b.config n) (attempt_of b.config n).done told

  -- the points that are stored beyond those of boundaries that kept steps pass: before the node that comes next, and of the boundary to which steps are bound
  abbrev pub points_ahead : ThreadGhost → ℕ
  points_ahead c = told_of c + one_if (is_bound c)

  -- the points that are stored grow as the boundaries that are passed, but for those that are ahead
  abbrev pub ArePassed : (stored : Bool) (passed : ℕ) (b : AbstractRun y) → ThreadGhost → (next : AbstractRun y) → ThreadGhost → (thread : ℕ) → Type 0
  ArePassed stored passed b c next ending n =
      one_if stored + points_ahead c + passages_ahead next (told_of ending) n ≡ passed + points_ahead ending + passages_ahead b (told_of c) n

  pub then_passes : (stored : Bool) (passed : ℕ) (b next last : AbstractRun y) (c ending at_last : ThreadGhost) (n : ℕ) →
      ArePassed stored passed b c next ending n → ArePassed false 0 next ending last at_last n → ArePassed stored passed b c last at_last n
  then_passes stored passed b next last c ending at_last n first later = omega (arith, first, later)

  -- from a thread of which the same is said
  pub passed_from : (stored : Bool) (passed : ℕ) (b next : AbstractRun y) (c other ending : ThreadGhost) (n : ℕ) → is_bound other ≡ is_bound c →
      tells_write other ≡ tells_write c → ArePassed stored passed b other next ending n → ArePassed stored passed b c next ending n
  passed_from stored passed b next c other ending n bound told is =
      coe 0 1 (i. one_if stored + (one_if (told i) + one_if (bound i)) + passages_ahead next (told_of ending) n
      ≡ passed + points_ahead ending + passages_ahead b (one_if (told i)) n) is

  -- the graph goes on by the steps
  pub record FollowsBegun (before after : FlowState) (begun : List ℕ) : Type 0 where
    pub runs : graph_runs (lowered (flat_of y)) before begun ≡ true
    pub is : after ≡ graph_after (lowered (flat_of y)) before begun

counts_bound : (stored old new : Bool) → stored ≡ (not old && new) → (old ≡ true → new ≡ true) → one_if stored + one_if old ≡ one_if new
counts_bound stored true true is on = omega (arith, ap one_if is)
counts_bound stored true false is on = absurd (true≢false (sym (on refl)))
counts_bound stored false true is on = omega (arith, ap one_if is)
counts_bound stored false false is on = omega (arith, ap one_if is)

-- ---- A step of the source is begun

module _ (y : System) (s : IsSystem y) (b : AbstractRun y) where
  abbrev G : Graph
  G = lowered (flat_of y)

  abbrev B : Boundaries
  B = y.plan.boundaries

  abbrev passed_now : (u : ℕ) → ℕ
  passed_now u = passages G B (now_of y b) (u ∷ []) u

  follows_one : (next : FlowState) (u : ℕ) → graph_step G (now_of y b) u ≡ Some next → FollowsBegun y (now_of y b) next (u ∷ [])
  follows_one next u step = record {
    runs = ap (λ (o : Option FlowState). let r : Bool = elim o [ None ↦ false | Some z ↦ true ] in r) step;
    is = sym (ap (λ (o : Option FlowState). let r : FlowState = elim o [ None ↦ now_of y b | Some z ↦ z ] in r) step);
  }

  pub led_graph : (h : ℕ) (next : AbstractRun y) (led : StepsOrStutters y b h next) →
      FollowsBegun y (now_of y b) (now_of y next) (begun_by (begins led) h [])
  led_graph h _ stays = record { runs = refl; is = refl }
  led_graph h _ (goes next (steps_locally u attempts g) by execution respects) =
      subst (λ (k : ℕ). FollowsBegun y (now_of y b) (flow_now (flat_of y) (kept_of y b) next) (k ∷ [])) by
      (follows_one _ u (follows_on y s b next (steps_locally u attempts g) refl))
  led_graph h _ (goes next (stores u memory attempts g) by execution respects) =
      subst (λ (k : ℕ). FollowsBegun y (now_of y b) (flow_now (flat_of y) (kept_of y b) next) (k ∷ [])) by
      (follows_one _ u (follows_on y s b next (stores u memory attempts g) refl))
  led_graph h _ (goes next (synchronises u g) by execution respects) =
      subst (λ (k : ℕ). FollowsBegun y (now_of y b) (flow_now (flat_of y) (kept_of y b) next) (k ∷ [])) by
      (follows_one _ u (follows_on y s b next (synchronises u g) refl))
  led_graph h _ (goes next (persists memory g) by execution respects) = record { runs = refl; is = refl }
  led_graph h _ (goes next (commits u attempts g) by execution respects) = absurd by
  led_graph h _ (goes next (crashes attempts g) by execution respects) = absurd by

  -- after so many steps of its own
  node_after_is : (u : ℕ) → node_of (now_of y b) u ≡ node_after (flat_of y) (kept_of y b) u (steps_begun b.config u)
  node_after_is u = ap (option_map (λ (z : GraphThread). z.at)) (alone y s b u)

  -- where the thread goes on with its attempt, and nothing is told of a write unless that has a step
  pub going_ahead : (u told : ℕ) → IsGoing b.config u → (steps_begun b.config u ≡ 0 → told ≡ 0) → passages_ahead y b told u ≡ told
  going_ahead u told going fresh = by (steps_begun b.config u) refl
    where
      by : (count : ℕ) → steps_begun b.config u ≡ count → passages_ahead y b told u ≡ told
      by zero none =
          let first : passages_ahead y b told u ≡ 0 = ap (λ (k : ℕ). ahead_by k (attempt_of b.config u).done told) none in
          omega (arith, first, fresh none)
      by (suc k) count =
          let first = ahead_some (steps_begun b.config u) (attempt_of b.config u).done told (omega (arith, count)) in
          omega (arith, first, going)

  -- ---- Of the thread itself

  module _ (u : ℕ) (after : FlowState) (step : graph_step G (now_of y b) u ≡ Some after) where
    abbrev st : Stepped G (now_of y b) after u
    st = stepped G (now_of y b) after u step

    abbrev stood : ℕ
    stood = st.graph_thread.at

    node_now : node_of (now_of y b) u ≡ Some stood
    node_now = ap (option_map (λ (z : GraphThread). z.at)) st.found

    there : IsThere (flat_of y) (now b.config) u st.graph_thread st.node
    there = is_there (flat_of y) s.plan.formed u (now_of y b) (now b.config) (matches_now y s b) st.graph_thread st.node st.found st.at

    -- by what the node does
    passed_by : passed_now u ≡ one_if (passes_boundary st.node.action (stands_at y s stood))
    passed_by = own_passed G B (now_of y b) after u step ∙ (ap (passages_at G B) node_now ∙ ap (passages_by (stands_at y s stood)) st.at)

    chosen_now : chosen_here y s (node_of (now_of y b) u) ≡ one_if (is_chosen st.node.action (stands_at y s stood))
    chosen_now = ap (chosen_here y s) node_now ∙ ap (chosen_by (stands_at y s stood)) st.at

    -- ---- A step that passes no mutex

    module _ (told : ℕ) (first_told : steps_begun b.config u ≡ 0 → told ≡ chosen_here y s (node_of (now_of y b) u))
        (next : AbstractRun y) (same : kept_of y next ≡ kept_of y b) (going : IsGoing b.config u)
        (attempt : (attempt_of next.config u).done ≡ suc (attempt_of b.config u).done) (more : steps_begun next.config u ≡ suc (steps_begun b.config u))
        (no_lock : (lock : LockName) (to : ℕ) → st.node.action ≡ Lock lock to → ⊥)
        (no_unlock : (lock : LockName) (to : ℕ) → st.node.action ≡ Unlock lock to → ⊥) where
      free_passed : passed_now u ≡ chosen_here y s (node_of (now_of y b) u)
      free_passed = passed_by ∙ (ap one_if (free_passes st.node.action (stands_at y s stood) no_lock no_unlock) ∙ sym chosen_now)

      -- past the first one no boundary stands before the node
      inner_plain : 0 < steps_begun b.config u → chosen_here y s (node_of (now_of y b) u) ≡ 0
      inner_plain some =
          let d = (attempt_of b.config u).done in
          let r = resumed y s next in
          let within = (r.resumed.invariant.tried u).within in
          let there_by : node_after (flat_of y) (kept_of y next) u d ≡ Some stood =
          ap (λ (z : FlowState). node_after (flat_of y) z u d) same
          ∙ (ap (node_after (flat_of y) (kept_of y b) u) (sym going) ∙ (sym (node_after_is u) ∙ node_now)) in
          ap (chosen_here y s) node_now
          ∙ chosen_none y s stood (λ chosen. (r.inside u).inside d stood (omega (arith, some, going)) (omega (arith, within, attempt)) there_by chosen.stands)

      local_ahead : passages_ahead y next told u ≡ passed_now u + passages_ahead y b told u
      local_ahead =
          let later = ahead_some (steps_begun next.config u) (attempt_of next.config u).done told (omega (arith, more)) in
          by (steps_begun b.config u) refl (omega (arith, later, more, attempt, going))
        where
          by : (count : ℕ) → steps_begun b.config u ≡ count → passages_ahead y next told u ≡ told →
              passages_ahead y next told u ≡ passed_now u + passages_ahead y b told u
          by zero none later =
              let first : passages_ahead y b told u ≡ 0 = ap (λ (k : ℕ). ahead_by k (attempt_of b.config u).done told) none in
              omega (arith, later, first, free_passed, first_told none)
          by (suc k) count later =
              let first = ahead_some (steps_begun b.config u) (attempt_of b.config u).done told (omega (arith, count)) in
              omega (arith, later, first, free_passed, inner_plain (omega (arith, count)), going)

    -- ---- One that passes a mutex

    module _ (told : ℕ) (first_told : steps_begun b.config u ≡ 0 → told ≡ chosen_here y s (node_of (now_of y b) u))
        (next : AbstractRun y) (same : kept_of y next ≡ kept_of y b) (going : IsGoing b.config u)
        (attempt : (attempt_of next.config u).done ≡ (attempt_of b.config u).done) (more : steps_begun next.config u ≡ suc (steps_begun b.config u))
        (passes : passes_boundary st.node.action (stands_at y s stood) ≡ true) (plain : is_chosen st.node.action (stands_at y s stood) ≡ false) where
      mutex_ahead : passages_ahead y next told u ≡ passed_now u + passages_ahead y b told u
      mutex_ahead =
          let later = ahead_some (steps_begun next.config u) (attempt_of next.config u).done told (omega (arith, more)) in
          by (steps_begun b.config u) refl (omega (arith, later, more, attempt, going))
        where
          one : passed_now u ≡ 1
          one = passed_by ∙ ap one_if passes

          by : (count : ℕ) → steps_begun b.config u ≡ count → passages_ahead y next told u ≡ told + 1 →
              passages_ahead y next told u ≡ passed_now u + passages_ahead y b told u
          by zero none later =
              let first : passages_ahead y b told u ≡ 0 = ap (λ (k : ℕ). ahead_by k (attempt_of b.config u).done told) none in
              omega (arith, later, first, one, first_told none, chosen_now, ap one_if plain)
          by (suc k) count later =
              let first = ahead_some (steps_begun b.config u) (attempt_of b.config u).done told (omega (arith, count)) in
              omega (arith, later, first, one, going)

    -- ---- What the node does

    abbrev here : IsAtNode (flat_of y) (now_of y b) (now b.config) u
    here = record {
      formed = s.plan.formed;
      matches = matches_now y s b;
      graph_thread = st.graph_thread;
      found = st.found;
      node = st.node;
      at = st.at;
    }

    no_lock_at : locks (now b.config) u ≡ None → (lock : LockName) (to : ℕ) → st.node.action ≡ Lock lock to → ⊥
    no_lock_at none lock to is =
        let all = threads_standings (flat_of y).threads in
        let th = there in
        none-some (lock_number th.thread.locals lock)
        (sym none ∙ (locks_found (now b.config) u th.thread th.there
        ∙ locks_if th.thread.locals all th.thread.left lock to th.thread.pending
        (subst (λ (a : Action). ActionLeads all a (record { left = th.thread.left; owes = is_some th.thread.pending })) is th.does)))

    no_unlock_at : unlocks (now b.config) u ≡ None → (lock : LockName) (to : ℕ) → st.node.action ≡ Unlock lock to → ⊥
    no_unlock_at none lock to is = none-some _ (sym none ∙ unlocks_it here lock to is)

    stores_at : (store : Pending) → store_ahead (now b.config) u ≡ Some store → StoresHere st.node.action
    stores_at store ahead =
        let th = there in
        owing_at (threads_standings (flat_of y).threads) st.node.action th.thread.left th.thread.pending store
        (sym th.match.pending ∙ (sym (ahead_is here) ∙ ahead)) th.does

    no_lock_stored : StoresHere st.node.action → (lock : LockName) (to : ℕ) → st.node.action ≡ Lock lock to → ⊥
    no_lock_stored made lock to is = let z = sym made.is ∙ is in cc

    no_unlock_stored : StoresHere st.node.action → (lock : LockName) (to : ℕ) → st.node.action ≡ Unlock lock to → ⊥
    no_unlock_stored made lock to is = let z = sym made.is ∙ is in cc

    -- the node locks or unlocks
    abbrev IsMutexNode : Type 0
    IsMutexNode = (passes_boundary st.node.action (stands_at y s stood) ≡ true) × (is_chosen st.node.action (stands_at y s stood) ≡ false)

    mutex_node : (mutex : ℕ) → PassesMutex (now b.config) u mutex → IsMutexNode
    mutex_node mutex (inl locks_it) =
        let l = locking_at (flat_of y) (now b.config) u st.graph_thread st.node there mutex locks_it in
        (ap (λ (a : Action). passes_boundary a (stands_at y s stood)) l.2, ap (λ (a : Action). is_chosen a (stands_at y s stood)) l.2)
    mutex_node mutex (inr unlocks_one) =
        let l = unlocking_at (flat_of y) (now b.config) u st.graph_thread st.node there mutex unlocks_one in
        (ap (λ (a : Action). passes_boundary a (stands_at y s stood)) l.2, ap (λ (a : Action). is_chosen a (stands_at y s stood)) l.2)

  -- ---- What happens by a thread

  abbrev IsAhead : (told : ℕ) (next : AbstractRun y) → ℕ → Type 0
  IsAhead told next u = passages_ahead y next told u ≡ passed_now u + passages_ahead y b told u

  -- what is told is right of the node where the first step is begun
  abbrev ToldFirst : (told h : ℕ) → Bool → Type 0
  ToldFirst told h begun = begun ≡ true → steps_begun b.config h ≡ 0 → told ≡ chosen_here y s (node_of (now_of y b) h)

  first_at : (told h u : ℕ) → u ≡ h → (steps_begun b.config h ≡ 0 → told ≡ chosen_here y s (node_of (now_of y b) h)) →
      steps_begun b.config u ≡ 0 → told ≡ chosen_here y s (node_of (now_of y b) u)
  first_at told h u same first = subst (λ (k : ℕ). steps_begun b.config k ≡ 0 → told ≡ chosen_here y s (node_of (now_of y b) k)) (sym same) first

  own_led : (told h : ℕ) (next : AbstractRun y) (led : StepsOrStutters y b h next) → ToldFirst told h (begins led) →
      passages_ahead y next told h ≡ passages G B (now_of y b) (begun_by (begins led) h []) h + passages_ahead y b told h
  own_led told h _ stays first = omega arith
  own_led told h _ (goes next (steps_locally u attempts g) by execution respects) first =
      let step = follows_on y s b next (steps_locally u attempts g) refl in
      subst (IsAhead told (abstract_next y b next execution respects)) by
      (local_ahead u _ step told (first_at told h u by (first refl)) (abstract_next y b next execution respects) refl g.going
      (ap (λ (a : Attempt). a.done) g.attempt.own)
      (counted_own u b.config.uncommitted) (no_lock_at u _ step g.step.locks_none) (no_unlock_at u _ step g.step.unlocks_none))
  own_led told h _ (goes next (stores u memory attempts g) by execution respects) first =
      let step = follows_on y s b next (stores u memory attempts g) refl in
      let made = stores_at u _ step g.store g.ahead in
      subst (IsAhead told (abstract_next y b next execution respects)) by
      (local_ahead u _ step told (first_at told h u by (first refl)) (abstract_next y b next execution respects) refl g.going
      (ap (λ (a : Attempt). a.done) g.attempt.own)
      (counted_own u b.config.uncommitted) (no_lock_stored u _ step made) (no_unlock_stored u _ step made))
  own_led told h _ (goes next (synchronises u g) by execution respects) first =
      let step = follows_on y s b next (synchronises u g) refl in
      let m = mutex_node u _ step g.mutex g.passes in
      subst (IsAhead told (abstract_next y b next execution respects)) by
      (mutex_ahead u _ step told (first_at told h u by (first refl)) (abstract_next y b next execution respects) refl g.going refl
      (counted_own u b.config.uncommitted) m.0 m.1)
  own_led told h _ (goes next (persists memory g) by execution respects) first = omega arith
  own_led told h _ (goes next (commits u attempts g) by execution respects) first = absurd by
  own_led told h _ (goes next (crashes attempts g) by execution respects) first = absurd by

  -- another thread is as far as it was
  others_led : (told h n : ℕ) (next : AbstractRun y) (led : StepsOrStutters y b h next) → n ≢ h → passages_ahead y next told n ≡ passages_ahead y b told n
  others_led told h n _ stays other = refl
  others_led told h n _ (goes next (steps_locally u attempts g) by execution respects) other =
      let apart : n ≢ u = λ e. other (e ∙ by) in
      λ i. ahead_by (counted_other u n b.config.uncommitted (λ e. apart (sym e)) i) (g.attempt.others n apart i).done told
  others_led told h n _ (goes next (stores u memory attempts g) by execution respects) other =
      let apart : n ≢ u = λ e. other (e ∙ by) in
      λ i. ahead_by (counted_other u n b.config.uncommitted (λ e. apart (sym e)) i) (g.attempt.others n apart i).done told
  others_led told h n _ (goes next (synchronises u g) by execution respects) other =
      let apart : n ≢ u = λ e. other (e ∙ by) in
      λ i. ahead_by (counted_other u n b.config.uncommitted (λ e. apart (sym e)) i) (attempt_of b.config n).done told
  others_led told h n _ (goes next (persists memory g) by execution respects) other = refl
  others_led told h n _ (goes next (commits u attempts g) by execution respects) other = absurd by
  others_led told h n _ (goes next (crashes attempts g) by execution respects) other = absurd by

  none_begun : (h n : ℕ) (begun : Bool) → n ≢ h → passages G B (now_of y b) (begun_by begun h []) n ≡ 0
  none_begun h n false other = refl
  none_begun h n true other = none_passed G B (now_of y b) h n other

-- what is told is right of the node where it stands
told_is : (y : System) (s : IsSystem y) (b : AbstractRun y) (h : ℕ) (told : Bool) →
    ((node : ℕ) → node_of (now_of y b) h ≡ Some node → IsTold y node told) → (node : ℕ) → node_of (now_of y b) h ≡ Some node →
    one_if told ≡ chosen_here y s (node_of (now_of y b) h)
told_is y s b h told right node stands =
    let is = right node stands in
    by (stands_or_not y s node) ∙ ap (chosen_here y s) (sym stands)
  where
    by : (IsChosen y.plan.graph y.plan.boundaries node) ⊎ ¬ (IsChosen y.plan.graph y.plan.boundaries node) → one_if told ≡ chosen_here y s (Some node)
    by (inl chosen) = ap one_if ((right node stands).0 chosen) ∙ sym (chosen_one y s node chosen)
    by (inr plain) = ap one_if ((right node stands).1 plain) ∙ sym (chosen_none y s node plain)

-- a step of a hart that executes instructions
pub step_passed : (y : System) (s : IsSystem y) (w : World) (h : ℕ) (stands : Simulates y s w) (o : OwnStep y s w h stands) →
    (stands.ghosts h).late ≡ false → ((n : ℕ) → n ≢ h → stores_point y.runs.program w (Step h) n ≡ false) → (n : ℕ) →
    ArePassed y (stores_point y.runs.program w (Step h) n)
    (passages (lowered (flat_of y)) y.plan.boundaries (now_of y stands.abstract) (begun_by (begins o.led) h []) n)
    stands.abstract (stands.ghosts n) o.next (with_ghost stands.ghosts h o.ghost n) n
step_passed y s w h stands o on_time unstored n = elim (same_or_other n h) [
  | inl same ↦ subst Passed (sym same) own
  | inr other ↦
      let b = stands.abstract in
      subst (λ (c : ThreadGhost). ArePassed y (stores_point y.runs.program w (Step h) n)
      (passages (lowered (flat_of y)) y.plan.boundaries (now_of y b) (begun_by (begins o.led) h []) n) b (stands.ghosts n) o.next c n)
      (sym (other_ghost stands.ghosts h o.ghost n other))
      (omega (
        arith,
        ap one_if (unstored n other),
        none_begun y s b h n (begins o.led) other,
        others_led y s b (told_of (stands.ghosts n)) h n o.next o.led other,
      ))
]
  where
    Passed : ℕ → Type 0
    Passed k = ArePassed y (stores_point y.runs.program w (Step h) k)
        (passages (lowered (flat_of y)) y.plan.boundaries (now_of y stands.abstract) (begun_by (begins o.led) h []) k)
        stands.abstract (stands.ghosts k) o.next (with_ghost stands.ghosts h o.ghost k) k

    first : begins o.led ≡ true → steps_begun stands.abstract.config h ≡ 0 → told_of (stands.ghosts h) ≡ chosen_here y s (node_of (now_of y stands.abstract) h)
    first begun none =
        let t = stands.each h o.below in
        let at : node_of (now_of y stands.abstract) h ≡ Some t.graph_thread.at =
        ap (option_map (λ (z : GraphThread). z.at)) (subst (λ (k : ℕ). slice_get (now_of y stands.abstract).graph_threads k ≡ Some t.graph_thread)
        (s.codes.number h o.below) t.walks) in
        told_is y s stands.abstract h (tells_write (stands.ghosts h)) (o.counted.begins_told on_time begun none) t.graph_thread.at at

    own : Passed h
    own =
        let b = stands.abstract in
        let counts = counts_bound (stores_point y.runs.program w (Step h) h) (is_bound (stands.ghosts h)) (is_bound o.ghost) o.counted.points o.counted.bound in
        let led = own_led y s b (told_of (stands.ghosts h)) h o.next o.led first in
        let told : told_of o.ghost ≡ told_of (stands.ghosts h) = ap one_if o.counted.told in
        subst (λ (c : ThreadGhost). ArePassed y (stores_point y.runs.program w (Step h) h)
        (passages (lowered (flat_of y)) y.plan.boundaries (now_of y b) (begun_by (begins o.led) h []) h) b (stands.ghosts h) o.next c h)
        (sym (own_ghost stands.ghosts h o.ghost))
        (subst (λ (k : ℕ). one_if (stores_point y.runs.program w (Step h) h) + points_ahead y (stands.ghosts h) + passages_ahead y o.next k h
        ≡ passages (lowered (flat_of y)) y.plan.boundaries (now_of y b) (begun_by (begins o.led) h []) h + (k + one_if (is_bound o.ghost))
        + passages_ahead y b (told_of (stands.ghosts h)) h) (sym told) (omega (arith, counts, led)))

-- ---- A thread's begun steps are kept

-- what is so of a thread's own commit: it comes to a boundary that stands by choice, or passes a mutex; without a step it has come to none before
pub record ComesToBoundary (y : System) (b : AbstractRun y) (c : ThreadGhost) (thread : ℕ) : Type 0 where
  pub one : one_if (is_some c.new.written) + (steps_begun b.config thread - (attempt_of b.config thread).done) ≡ 1
  pub fresh : c.late ≡ false → steps_begun b.config thread ≡ 0 → is_some c.old.written ≡ false

module _ (y : System) (s : IsSystem y) (w : World) (b : AbstractRun y) (code : Code y.plan) (c : ThreadGhost) (t : ThreadInv y w b code c)
    (not_yet : c.committed ≡ false) where
  open code.thread use {number as u}

  comes_by : (exit : ExitPoint) (steps : ℕ) → IsAtBoundary exit → InFragment y w b code c t.log.hart t.graph_thread exit steps → ComesToBoundary y b c u
  comes_by _ steps (at_keeps owed) o =
      let told = ap one_if o.fits.2.written in record { one = omega (arith, told, o.fits.1); fresh = o.fits.2.before not_yet }
  comes_by _ steps (at_took from) o =
      let begun = (o.fits.before not_yet).1.begun in
      let told = ap one_if o.fits.written in
      record { one = omega (arith, told, begun); fresh = λ on_time none. absurd (omega (arith, none, begun)) }
  comes_by _ steps (at_gives from mutex) o =
      let begun = (o.fits.before not_yet).begun in
      let told = ap one_if o.fits.written in
      record { one = omega (arith, told, begun); fresh = λ on_time none. absurd (omega (arith, none, begun)) }

  pub comes : ComesToBoundary y b c u
  comes = let u = under_way y w b code c t not_yet in comes_by u.to u.steps u.exit u.on

module _ (y : System) (b next : AbstractRun y) (k : ℕ) where
  -- the thread's own: the point to which they were bound is that of the last boundary that they pass, or of the one before the next node
  pub own_taken : (c : ThreadGhost) → c.committed ≡ false → is_bound c ≡ true → c.late ≡ false → ComesToBoundary y b c k → steps_begun next.config k ≡ 0 →
      ArePassed y false 0 b c next (record c { committed = true; late = false }) k
  own_taken c not_yet bound on_time come none =
      let later : passages_ahead y next (one_if (is_some c.new.written)) k ≡ 0 =
      ap (λ (j : ℕ). ahead_by j (attempt_of next.config k).done (one_if (is_some c.new.written))) none in
      let old : told_of c ≡ one_if (is_some c.old.written) = ap (λ (r : Record). one_if (is_some r.written)) (cond-false c.committed c.new c.old not_yet) in
      by (steps_begun b.config k) refl later old (ap one_if bound)
    where
      by : (count : ℕ) → steps_begun b.config k ≡ count → passages_ahead y next (one_if (is_some c.new.written)) k ≡ 0 →
          told_of c ≡ one_if (is_some c.old.written) → one_if (is_bound c) ≡ 1 → ArePassed y false 0 b c next (record c { committed = true; late = false }) k
      by zero count later old one =
          let before : passages_ahead y b (told_of c) k ≡ 0 = ap (λ (j : ℕ). ahead_by j (attempt_of b.config k).done (told_of c)) count in
          omega (arith, before, later, old, one, come.one, count, ap one_if (come.fresh on_time count))
      by (suc j) count later old one =
          let before = ahead_some (steps_begun b.config k) (attempt_of b.config k).done (told_of c) (omega (arith, count)) in
          omega (arith, before, later, one, come.one)

  pub others_taken : (n : ℕ) (c : ThreadGhost) → steps_begun next.config n ≡ steps_begun b.config n →
      (attempt_of next.config n).done ≡ (attempt_of b.config n).done → ArePassed y false 0 b c next c n
  others_taken n c begun done =
      let later : passages_ahead y next (told_of c) n ≡ passages_ahead y b (told_of c) n = λ i. ahead_by (begun i) (done i) (told_of c) in
      omega (arith, later)
