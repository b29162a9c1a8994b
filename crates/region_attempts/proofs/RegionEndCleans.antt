-- The lines of an attempt's stores are cleaned when it has come to its region's end.
use Rattle.std.proofs.Common.{◌≡◌, ◌≢◌, ◌⊎◌, inl, inr, refl, ℕ, zero, suc, ◌+◌, ◌-◌, ◌/◌, ◌<◌, ◌≤◌, List}
use Rattle.c_tree.specs.Exprs.{LockName}
use Rattle.std.proofs.Common.{replicate, sym, ◌∙◌, ap, subst, arith, Option, Some, None, Bool, true, ⊎_elim}
use Rattle.std.specs.Prelude.{slice_get, is_some, Contains}
use Rattle.std.specs.Option.{option_map}
use Rattle.std.proofs.lemmas.Bool.{cases_eq}
use Rattle.std.proofs.lemmas.Option.{slice_get_within}
use Rattle.ido_base.specs.declared.location.Shape.{Shape}
use Rattle.ido_base.specs.declared.location.Location.{Location}
use Rattle.ido_base.specs.Layout.{line_bytes, variable_at}
use Rattle.c_tree.specs.Flats as f
use Rattle.flow_graph.specs.Nodes.{Action, Lock, Unlock, Node, Graph, successors}
use Rattle.flow_graph.specs.Lowering.{lowered, threads_nodes}
use Rattle.flow_graph.specs.Liveness.{NodeAt}
use Rattle.flow_graph.specs.Actions.{GraphThread, FlowState, Effect, Ends, seen_by}
use Rattle.flow_graph.specs.Lockstep.{Matches}
use Rattle.flow_graph.specs.IdempotentCuts as cutting
use Rattle.flow_graph.specs.IdempotentCuts.{Boundaries, IsEdge, HasBefore, IsBoundary, AreCuts}
use Rattle.flow_graph.specs.OmittedCleans.{StoresInLine, ReachesUncleaned, at_boundary, goes_on}
use Rattle.flow_graph.specs.Paths.{Element, IsInRange}
use Rattle.flow_graph.proofs.Public.{ShapedBy, node_shaped, node_at, found_in, Stepped, moved, goes_by, nodes_at, at_nodes}
use Rattle.recovery_semantics.specs.Attempts.{solo, WritesAt, PassesMutex}
use Rattle.recovery_semantics.specs.Configs.{attempt_of}
use Rattle.recovery_semantics.proofs.Public.{none_some}
use Rattle.region_attempts.specs.GraphStates.{flow_solo, node_after}
use Rattle.region_attempts.specs.AttemptsInRegion.{StaysInside, IsBeforeBoundary}
use Rattle.region_attempts.specs.PendingCleans.{line_of, AreLeftOut, Attempts, Cleans, CleansSince}
use Rattle.region_attempts.specs.Laws.{StoresAreCleaned}
use Rattle.region_attempts.proofs.StepBisimulation.{IsThere, is_there, moved_there}
use Rattle.region_attempts.proofs.GraphConfigs.{GraphConfig, graph_config}
use Rattle.region_attempts.proofs.GraphRuns.{matched_run}
use Rattle.region_attempts.proofs.Nodes.{StoresHere, locking_at, unlocking_at, store_goes_on, lock_goes_on, unlock_goes_on}
use Rattle.region_attempts.proofs.Region.{one_node, decide_true, own, made_there, number, number_is, there_at, is_number, edge, no_lock_there, free}
use Rattle.region_attempts.proofs.AttemptNaming.{keeps}
use Rattle.region_attempts.proofs.AttemptReads.{lies_in, naming_there, node_there, stores_there, Stored, stored_there}
use Rattle.region_attempts.proofs.WholeAttempts.{attempts_are_whole}

-- ---- Stores into a line

not_single : (shapes : List Shape) (line : ℕ) (l r : Location) → l ≡ r → r.lo ≡ r.hi → variable_at shapes r.variable r.lo / line_bytes ≡ line →
    (l.lo ≡ l.hi) × (variable_at shapes l.variable l.lo / line_bytes ≡ line)
not_single shapes line l r is single there =
    subst (λ (z : Location). (z.lo ≡ z.hi) × (variable_at shapes z.variable z.lo / line_bytes ≡ line)) (sym is) (single, there)

module _ (x : f.Flat) (shapes : List Shape) (line number : ℕ) (node : Node) (at : NodeAt (lowered x) number node) where
  same_writes : (s : StoresInLine (lowered x) shapes line number) → node.writes ≡ Some s.written
  same_writes s = ap (λ (z : Node). z.writes) (one_node (lowered x) number node s.is at s.at) ∙ s.writes

  decide_line_by : (o : Option Location) → node.writes ≡ o → StoresInLine (lowered x) shapes line number ⊎ (¬ (StoresInLine (lowered x) shapes line number))
  decide_line_by None e = inr (λ s. none_some s.written (sym e ∙ same_writes s))
  decide_line_by (Some l) e = ⊎_elim
      (λ single. ⊎_elim
      (λ there. inl (record { is = node; at = at; written = l; writes = e; single = single; in_line = there }))
      (λ n. inr (λ s. n (not_single shapes line l s.written (found s) s.single s.in_line).1))
      (cases_eq (variable_at shapes l.variable l.lo / line_bytes) line))
      (λ n. inr (λ s. n (not_single shapes line l s.written (found s) s.single s.in_line).0))
      (cases_eq l.lo l.hi)
    where
      found : (s : StoresInLine (lowered x) shapes line number) → l ≡ s.written
      found s = let a = same_writes s in cc

  decide_line : StoresInLine (lowered x) shapes line number ⊎ (¬ (StoresInLine (lowered x) shapes line number))
  decide_line = decide_line_by node.writes refl

-- the line of the one element of a location
line_there : (shapes : List Shape) (l : Location) (one : Element) → l.lo ≡ l.hi → IsInRange l one →
    variable_at shapes l.variable l.lo / line_bytes ≡ line_of shapes one.variable one.element
line_there shapes l one single h =
    let e : l.lo ≡ one.element = omega (arith, single, h.from_lo, h.to_hi) in
    λ i. variable_at shapes (h.variable i) (e i) / line_bytes

lock_writes_none : (x : f.Flat) (number : ℕ) (lock : LockName) (next : ℕ) (node : Node) → NodeAt (lowered x) number node → node.action ≡ Lock lock next →
    node.writes ≡ None
lock_writes_none x number lock next node at is =
    let shape = node_shaped x number node (nodes_at x number node at) in
    subst (λ (a : Action). ShapedBy shape.0 (threads_nodes x x.threads 0) node a) is shape.1

module _ (x : f.Flat) (b : Boundaries) (cuts : AreCuts (lowered x) b) (c : GraphConfig x) (t : ℕ) (stays : StaysInside x b c.flow c.config t)
    (shapes : List Shape) (text : f.Thread) (its : slice_get x.threads t ≡ Some text) where
  abbrev g : Graph
  g = lowered x

  abbrev n : ℕ
  n = (attempt_of c.config t).longest

  abbrev at : ℕ → ℕ
  at k = number x c t k

  abbrev node : (k : ℕ) → k < n → Node
  node k l = node_there x c t text its k l

  at_node : (k : ℕ) (l : k < n) → NodeAt g (at k) (node k l)
  at_node k l = ap (slice_get g.nodes) (number_is x c t k l) ∙ (made_there x c t k l).at

  -- ---- The last step

  module _ (q : ℕ) (is : n ≡ suc q) where
    low : q < n
    low = omega (arith, is)

    abbrev st : Stepped g (flow_solo x c.flow t q) (own x c t q low).next t
    st = made_there x c t q low

    abbrev ahead : GraphThread
    ahead = moved st.graph_thread st.effect

    found : slice_get (flow_solo x c.flow t n).graph_threads t ≡ Some ahead
    found = ap (λ (k : ℕ). slice_get (flow_solo x c.flow t k).graph_threads t) is
        ∙ (ap (λ (s : FlowState). slice_get s.graph_threads t) (own x c t q low).after
        ∙ moved_there x (flow_solo x c.flow t q) (own x c t q low).next t st)

    edge_last : (st.effect ≡ Ends → ⊥) → IsEdge g (at q) ahead.at
    edge_last never = elim (goes_by st.node.action (seen_by (flow_solo x c.flow t q) st.graph_thread) st.graph_thread st.effect st.does) [
      | inl goes ↦
          let made : IsEdge g st.graph_thread.at ahead.at = record { is = st.node; at = st.at; goes = goes } in
          subst (λ (z : ℕ). IsEdge g z ahead.at) (sym (number_is x c t q low)) made
      | inr over ↦ absurd (never over)
    ]

    -- at the end it stands where it stood
    same_at : st.effect ≡ Ends → ahead.at ≡ at q
    same_at over = ap (λ (z : Effect). (moved st.graph_thread z).at) over ∙ sym (number_is x c t q low)

    not_over : (k : ℕ) (l : k < n) (one : Element) → WritesAt c.config.kept t k one.variable one.element → HasBefore b ahead.at → st.effect ≡ Ends → ⊥
    not_over k l one wr before over = ⊎_elim
        (λ e.
        let P : ℕ → Type 0 = λ j. (l : j < n) → StoresHere (node j l).action in
        let stores : StoresHere (node q low).action = subst P e (λ l'. (stores_there x c t text its k l' one wr).stores) low in
        store_goes_on st.node.action (seen_by (flow_solo x c.flow t q) st.graph_thread) stores (st.does ∙ ap Some over))
        (λ d. stays.inside q (at q) (omega (arith, d, l, is)) low (is_number x c t q low) (subst (HasBefore b) (same_at over) before))
        (cases_eq k q)

    ends_before : (st.effect ≡ Ends → ⊥) → HasBefore b ahead.at → (line : ℕ) → ReachesUncleaned g b shapes line (at q)
    ends_before never before line = at_boundary (at q) ahead.at (edge_last never) (inr before)

    -- the node ahead
    matches_there : Matches x (flow_solo x c.flow t n) (solo c.config.kept t n)
    matches_there = matched_run x c.formed (replicate n t) c.flow c.config.kept c.matches

    node_ahead : (it : Node) × NodeAt g ahead.at it
    node_ahead =
        let within = slice_get_within (flow_solo x c.flow t n).graph_threads t ahead found in
        let there = found_in (solo c.config.kept t n).threads t (omega (arith, matches_there.count, within)) in
        let lockstep = matches_there.each t ahead there.0 found there.1 in
        let it = node_at x ahead.at (record { left = there.0.left; owes = is_some there.0.pending }) c.formed.threads lockstep.stands in
        (it.0, at_nodes x ahead.at it.0 it.1)

    there_ahead : IsThere x (solo c.config.kept t n) t ahead node_ahead.0
    there_ahead = is_there x c.formed t (flow_solo x c.flow t n) (solo c.config.kept t n) matches_there ahead node_ahead.0 found node_ahead.1

    same_node : st.effect ≡ Ends → st.node ≡ node_ahead.0
    same_node over =
        let here : NodeAt g ahead.at st.node = ap (λ (z : Effect). slice_get g.nodes (moved st.graph_thread z).at) over ∙ st.at in
        one_node g ahead.at st.node node_ahead.0 here node_ahead.1

    ends_lock : (lock : LockName) (next : ℕ) → node_ahead.0.action ≡ Lock lock next → (line : ℕ) → ReachesUncleaned g b shapes line (at q)
    ends_lock lock next action line =
        let never : st.effect ≡ Ends → ⊥ = λ over. lock_goes_on st.node.action lock next (seen_by (flow_solo x c.flow t q) st.graph_thread)
        (ap (λ (z : Node). z.action) (same_node over) ∙ action) (st.does ∙ ap Some over) in
        let after = cuts.past_locks ahead.at (cutting.locks node_ahead.0 lock next node_ahead.1 action) in
        let goes : Contains (successors node_ahead.0.action) next = subst (λ (a : Action). Contains (successors a) next) (sym action) (0, omega arith, refl) in
        let none = lock_writes_none x ahead.at lock next node_ahead.0 node_ahead.1 action in
        ⊎_elim
        (λ before. ends_before never before line)
        (λ no. goes_on (at q) ahead.at (edge_last never) (λ p. ⊎_elim (λ h. no_lock_there x c t q low h.locks) no p)
        (λ s. none_some s.written (sym none ∙ same_writes x shapes line ahead.at node_ahead.0 node_ahead.1 s))
        (at_boundary ahead.at next (record { is = node_ahead.0; at = node_ahead.1; goes = goes }) (inl after)))
        (decide_true (slice_get b.before ahead.at))

    ends_unlock : (lock : LockName) (next : ℕ) → node_ahead.0.action ≡ Unlock lock next → (line : ℕ) → ReachesUncleaned g b shapes line (at q)
    ends_unlock lock next action line = ends_before
        (λ over. unlock_goes_on st.node.action lock next (seen_by (flow_solo x c.flow t q) st.graph_thread)
        (ap (λ (z : Node). z.action) (same_node over) ∙ action) (st.does ∙ ap Some over))
        (cuts.before_unlocks ahead.at (cutting.unlocks node_ahead.0 lock next node_ahead.1 action)) line

    -- from the last step of an attempt a boundary is reached
    ends_there : (k : ℕ) (l : k < n) (one : Element) → WritesAt c.config.kept t k one.variable one.element → (attempt_of c.config t).done ≡ n →
        IsBeforeBoundary x b c.flow c.config t → (line : ℕ) → ReachesUncleaned g b shapes line (at q)
    ends_there k l one wr whole stands line = ⊎_elim
        (λ come.
        let after : Some ahead.at ≡ Some come.node =
        sym (ap (option_map (λ (z : GraphThread). z.at)) found) ∙ (ap (λ (j : ℕ). node_after x c.flow t j) (sym whole) ∙ come.at) in
        let same_number : come.node ≡ ahead.at = cc in
        let before : HasBefore b ahead.at = subst (HasBefore b) same_number come.stands in
        ends_before (not_over k l one wr before) before line)
        (λ p.
        let pass : PassesMutex (solo c.config.kept t n) t p.0 = subst (λ (j : ℕ). PassesMutex (solo c.config.kept t j) t p.0) whole p.1 in
        ⊎_elim
        (λ h. let a = locking_at x (solo c.config.kept t n) t ahead node_ahead.0 there_ahead p.0 h in ends_lock a.0 a.1 a.2 line)
        (λ h. let a = unlocking_at x (solo c.config.kept t n) t ahead node_ahead.0 there_ahead p.0 h in ends_unlock a.0 a.1 a.2 line)
        pass)
        stands

    -- ---- From a store on

    -- a later step stores into the line
    record IsLater (line k : ℕ) : Type 0 where
      later : ℕ
      above : k < later
      within : later < n
      stores : StoresInLine g shapes line (at later)

    reaches : (line : ℕ) → ReachesUncleaned g b shapes line (at q) → (gap k : ℕ) → k + gap ≡ q →
        ReachesUncleaned g b shapes line (at k) ⊎ IsLater line k
    reaches line last zero k e =
        let here : q ≡ k = omega (arith, e) in
        inl (subst (λ (j : ℕ). ReachesUncleaned g b shapes line (at j)) here last)
    reaches line last (suc gap) k e =
        let next : suc k < n = omega (arith, e, is) in
        ⊎_elim
        (λ s. inr (record { later = suc k; above = omega arith; within = next; stores = s }))
        (λ none. ⊎_elim
        (λ r. inl (goes_on (at k) (at (suc k)) (edge x c t k next) (free x c t b stays k next) none r))
        (λ s. let above = s.above in inr (record { later = s.later; above = omega (arith, above); within = s.within; stores = s.stores }))
        (reaches line last gap (suc k) (omega (arith, e))))
        (decide_line x shapes line (at (suc k)) (node (suc k) next) (at_node (suc k) next))

    module _ (left_out : List Bool) (left : AreLeftOut x b shapes left_out) (last : (line : ℕ) → ReachesUncleaned g b shapes line (at q)) where
      abbrev attempts : Attempts
      attempts = record { flat = x; kept = c.flow; config = c.config; shapes = shapes; left_out = left_out }

      abbrev Cleaned : (first variable element : ℕ) → Type 0
      Cleaned first variable element = CleansSince attempts t first n (line_of shapes variable element)

      -- an element that is stored there has the line
      line_is : (line k : ℕ) (l : k < n) (s : StoresInLine g shapes line (at k)) (one : Element) → IsInRange s.written one →
          line_of shapes one.variable one.element ≡ line
      line_is line k l s one lies = sym (line_there shapes s.written one s.single lies) ∙ s.in_line

      lies_there : (line k : ℕ) (l : k < n) (s : StoresInLine g shapes line (at k)) (one : Element) → WritesAt c.config.kept t k one.variable one.element →
          IsInRange s.written one
      lies_there line k l s one wr =
          let stores = stores_there x c t text its k l one wr in
          (lies_in (naming_there x c t text its k l) (node k l).writes s.written one stores.lies
          (same_writes x shapes line (at k) (node k l) (at_node k l) s)).within

      here : (k : ℕ) (l : k < n) (one : Element) → slice_get left_out (at k) ≢ Some true → WritesAt c.config.kept t k one.variable one.element →
          Cleaned k one.variable one.element
      here k l one kept_clean wr = record {
        last = k;
        since = omega arith;
        within = l;
        at = record {
          node = at k;
          at = is_number x c t k l;
          variable = one.variable;
          element = one.element;
          stores = wr;
          in_line = refl;
          cleans = kept_clean;
        };
      }

      from_later : (k line : ℕ) (next : IsLater line k) (one : Element) → line_of shapes one.variable one.element ≡ line →
          (stored : Stored x c t text its next.later next.within next.stores.written) → Cleaned next.later stored.one.variable stored.one.element →
          Cleaned k one.variable one.element
      from_later k line next one is_line stored more =
          let same_line = line_is line next.later next.within next.stores stored.one stored.lies.within ∙ sym is_line in
          let above = next.above in
          let low_more = more.since in
          record {
            last = more.last;
            since = omega (arith, above, low_more);
            within = more.within;
            at = subst (λ (z : ℕ). Cleans attempts t more.last z) same_line more.at;
          }

      since : (fuel k : ℕ) (l : k < n) (one : Element) → n ≤ k + fuel → WritesAt c.config.kept t k one.variable one.element →
          Cleaned k one.variable one.element
      since zero k l one room wr = absurd (omega (arith, l, room))
      since (suc fuel) k l one room wr = ⊎_elim
          (λ yes.
          let d = left (at k) yes in
          ⊎_elim
          (λ r. absurd (d.later r))
          (λ next.
          let above = next.above in
          let stored = stored_there x c t text its next.later next.within next.stores.written
          (same_writes x shapes d.line (at next.later) (node next.later next.within) (at_node next.later next.within) next.stores) in
          from_later k d.line next one (line_is d.line k l d.stores one (lies_there d.line k l d.stores one wr)) stored
          (since fuel next.later next.within stored.one (omega (arith, room, above)) stored.at))
          (reaches d.line (last d.line) (q - k) k (omega (arith, l, is))))
          (λ kept_clean. here k l one kept_clean wr)
          (decide_true (slice_get left_out (at k)))

  cleaned_by : (left_out : List Bool) → AreLeftOut x b shapes left_out → (attempt_of c.config t).done ≡ n → IsBeforeBoundary x b c.flow c.config t →
      (total : ℕ) → n ≡ total → (k : ℕ) (l : k < n) (one : Element) → WritesAt c.config.kept t k one.variable one.element →
      CleansSince (record { flat = x; kept = c.flow; config = c.config; shapes = shapes; left_out = left_out }) t k n (line_of shapes one.variable one.element)
  cleaned_by left_out left whole stands zero e k l one wr = absurd (omega (arith, l, e))
  cleaned_by left_out left whole stands (suc q) e k l one wr =
      since q e left_out left (ends_there q e k l one wr whole stands) n k l one (omega arith) wr

pub stores_are_cleaned : StoresAreCleaned
stores_are_cleaned x b shapes left_out o old schedule t k v e w cuts left i by stays stands below wr =
    let c = graph_config x w o old schedule i by in
    let whole = attempts_are_whole x b c.flow old t i stays stands in
    let one : Element = record { variable = v; element = e } in
    let l : k < (attempt_of old t).longest = omega (arith, below, whole) in
    let th = there_at x c t 0 (omega (arith, l)) in
    let own = keeps x c t th.thread th.there in
    let a : Attempts = record { flat = x; kept = c.flow; config = old; shapes = shapes; left_out = left_out } in
    subst (λ (n : ℕ). CleansSince a t k n (line_of shapes v e)) (sym whole)
    (cleaned_by x b cuts c t stays shapes own.text own.its left_out left whole stands (attempt_of old t).longest refl k l one wr)
