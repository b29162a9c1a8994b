-- No step by which a thread ends is kept: no boundary stands at a thread's end.
use Rattle.std.proofs.Common.{◌≡◌, inl, inr, refl, ℕ, suc, List, [], ◌++◌, replicate, Bool, true, false, slice_get, Some, ap, sym, subst, ◌∙◌, append-nil}
use Rattle.std.specs.Option.{option_map}
use Rattle.std.proofs.lemmas.Bool.{true≢false}
use Rattle.std.proofs.lemmas.Option.{same_Some}
use Rattle.c_tree.specs.Exprs.{LockName}
use Rattle.c_tree.specs.Source as m
use Rattle.source_machine.proofs.Public.{solo as alone_so}
use Rattle.flow_graph.specs.Nodes.{Action, End, Lock, Unlock, Node, Graph}
use Rattle.flow_graph.specs.IdempotentCuts.{HasBefore, IsUnlock, unlocks as gives_back}
use Rattle.flow_graph.specs.Liveness.{NodeAt}
use Rattle.flow_graph.specs.Lowering.{lowered}
use Rattle.flow_graph.specs.Actions.{FlowState, GraphThread}
use Rattle.flow_graph.proofs.Public.{Stepped, graph_threads_after, moved, same_or_other, set_same, stepped}
use Rattle.recovery_semantics.specs.Attempts.{PassesMutex, solo}
use Rattle.recovery_semantics.specs.Configs.{Config, attempt_of}
use Rattle.recovery_semantics.specs.Events.{steps_begun, steps_locally, stores, synchronises, persists, commits, crashes}
use Rattle.recovery_semantics.specs.Executions.{Execution, begins, then}
use Rattle.recovery_semantics.specs.Laws.{ExecutionInv}
use Rattle.recovery_semantics.proofs.Public.{last_step}
use Rattle.region_attempts.specs.AttemptsInRegion.{RespectsAll, SettlesThere}
use Rattle.region_attempts.specs.GraphStates.{flow_kept, flow_solo}
use Rattle.region_attempts.specs.Laws.{GraphThreadsSettle}
use Rattle.region_attempts.specs.Origins.{Origin}
use Rattle.region_attempts.proofs.Public.{graph_settles, inner_runs, is_there, locking_at, own_step, unlocking_at}
use Rattle.crash_simulation.specs.Systems.{System, IsSystem, flat_of}
use Rattle.crash_simulation.specs.AbstractRuns.{AbstractRun, kept_of, now_of}
use Rattle.crash_simulation.proofs.Public.{WritesHere, as_source, assigns_there, chosen_writes, resumed, stores_there}
use Rattle.fence_counts.proofs.EndedThreads.{EndAtEnds, IsEnd, ended_there, run_ends}

-- no thread has ended
abbrev pub NoneEnded : FlowState → Type 0
NoneEnded a = (t : ℕ) (graph_thread : GraphThread) → slice_get a.graph_threads t ≡ Some graph_thread → graph_thread.ended ≡ false

no_lock_ends : (action : Action) (lock : LockName) (next : ℕ) → action ≡ Lock lock next → action ≡ End → ⊥
no_lock_ends action lock next locks_it ends = let e = sym locks_it ∙ ends in cc

no_unlock_ends : (action : Action) (lock : LockName) (next : ℕ) → action ≡ Unlock lock next → action ≡ End → ⊥
no_unlock_ends action lock next unlocks_it ends = let e = sym unlocks_it ∙ ends in cc

no_write_ends : (action : Action) → WritesHere action → action ≡ End → ⊥
no_write_ends action (stores_there t) ends = let e = sym t.is ∙ ends in cc
no_write_ends action (assigns_there t) ends = let e = sym t.is ∙ ends in cc

module _ (y : System) (s : IsSystem y) where
  abbrev G : Graph
  G = lowered (flat_of y)

  -- no boundary stands before an end
  no_boundary : (node : ℕ) → HasBefore y.plan.boundaries node → IsEnd G node → ⊥
  no_boundary node stands end =
      let at : NodeAt y.plan.graph node end.is = subst (λ (g : Graph). NodeAt g node end.is) (sym s.plan.lowered) end.at in
      no_write_ends end.is.action (chosen_writes y s node end.is at (record { stands = stands; free = free at })) end.ends
    where
      free : NodeAt y.plan.graph node end.is → IsUnlock y.plan.graph node → ⊥
      free at (gives_back x lock next there action) =
          no_unlock_ends end.is.action lock next (ap (λ (n : Node). n.action) (same_Some end.is x (sym at ∙ there)) ∙ action) end.ends

  -- where it begins with none that has ended
  module _ (o : Origin (flat_of y)) (fresh : NoneEnded o.flow) where
    at_ends : (schedule : List ℕ) → EndAtEnds G (flow_kept (flat_of y) o schedule)
    at_ends schedule = run_ends G schedule o.flow (λ t graph_thread there ended. absurd (true≢false (sym ended ∙ fresh t graph_thread there)))

    -- ---- A thread's begun steps are kept

    module _ (b : AbstractRun y) (from : b.origin ≡ o) (kept : NoneEnded (kept_of y b)) (k : ℕ)
        (settles : SettlesThere (flat_of y) y.plan.boundaries (kept_of y b) b.config k) where
      abbrev done : ℕ
      done = (attempt_of b.config k).done

      abbrev inv : ExecutionInv (flat_of y) b.origin.source b.config b.schedule
      inv = (resumed y s b).resumed

      kept_ends : EndAtEnds G (kept_of y b)
      kept_ends = subst (λ (z : Origin (flat_of y)). EndAtEnds G (flow_kept (flat_of y) z b.schedule)) (sym from) (at_ends b.schedule)

      now_ends : EndAtEnds G (now_of y b)
      now_ends = run_ends G b.config.uncommitted (kept_of y b) kept_ends

      alone_at : (count : ℕ) → steps_begun b.config k ≡ count →
          slice_get (now_of y b).graph_threads k ≡ slice_get (flow_solo (flat_of y) (kept_of y b) k count).graph_threads k
      alone_at count is =
          (as_source y s b).alone k ∙ ap (λ (n : ℕ). slice_get (flow_solo (flat_of y) (kept_of y b) k n).graph_threads k) is

      there_then : (next : FlowState) → flow_solo (flat_of y) (kept_of y b) k (suc done) ≡ next → steps_begun b.config k ≡ suc done →
          slice_get next.graph_threads k ≡ slice_get (now_of y b).graph_threads k
      there_then next after begun = ap (λ (z : FlowState). slice_get z.graph_threads k) (sym after) ∙ sym (alone_at (suc done) begun)

      moved_there : (before next : FlowState) (st : Stepped G before next k) → slice_get next.graph_threads k ≡ Some (moved st.graph_thread st.effect)
      moved_there before next st =
          ap (λ (ts : List GraphThread). slice_get ts k) (graph_threads_after before next k st.graph_thread st.effect st.is)
          ∙ set_same before.graph_threads k (moved st.graph_thread st.effect) st.graph_thread st.found

      -- its last step has passed a mutex
      passed : steps_begun b.config k ≡ suc done → (mutex : ℕ) → PassesMutex (solo b.config.kept k done) k mutex → (graph_thread : GraphThread) →
          slice_get (now_of y b).graph_threads k ≡ Some graph_thread → graph_thread.ended ≡ true → ⊥
      passed begun mutex passes graph_thread there ended =
          let runs : m.runs_from b.config.kept (replicate (suc done) k) ≡ true =
          ap (λ (n : ℕ). m.runs_from b.config.kept (replicate n k)) (sym begun)
          ∙ (alone_so (flat_of y) b.config.kept b.config.uncommitted k inv.invariant.keeps inv.invariant.runs inv.invariant.hands).runs in
          let last = last_step b.config.kept k done runs in
          let tried = inv.invariant.tried k in
          let inner = inner_runs done (attempt_of b.config k).longest b.config.kept k tried.inner tried.within in
          let matches = (as_source y s b).solo_matches k done in
          let step = own_step (flat_of y) s.plan.formed (kept_of y b) b.config.kept last.next k done (as_source y s b).kept_matches inner last.is in
          let before : FlowState = flow_solo (flat_of y) (kept_of y b) k done in
          let st = stepped G before step.next k step.is in
          let now_is : slice_get step.next.graph_threads k ≡ Some graph_thread = there_then step.next step.after begun ∙ there in
          let same : moved st.graph_thread st.effect ≡ graph_thread = same_Some _ graph_thread (sym (moved_there before step.next st) ∙ now_is) in
          let end : st.node.action ≡ End =
          ended_there G before step.next k step.is (run_ends G (replicate done k) (kept_of y b) kept_ends)
          (ap (λ (z : GraphThread). z.ended) same ∙ ended) in
          let stands = is_there (flat_of y) s.plan.formed k before (solo b.config.kept k done) matches st.graph_thread st.node st.found st.at in
          elim passes [
            | inl locks_it ↦
                let l = locking_at (flat_of y) (solo b.config.kept k done) k st.graph_thread st.node stands mutex locks_it in
                no_lock_ends st.node.action l.0 l.1 l.2 end
            | inr unlocks_it ↦
                let l = unlocking_at (flat_of y) (solo b.config.kept k done) k st.graph_thread st.node stands mutex unlocks_it in
                no_unlock_ends st.node.action l.0 l.1 l.2 end
          ]

      now_goes_on : (graph_thread : GraphThread) → slice_get (now_of y b).graph_threads k ≡ Some graph_thread → graph_thread.ended ≡ true → ⊥
      now_goes_on graph_thread there ended = elim (inv.invariant.tried k).begun [
        | inl going ↦ elim (settles going) [
          | inl none ↦ true≢false (sym ended ∙ kept k graph_thread (sym (alone_at 0 (going ∙ none)) ∙ there))
          | inr come ↦
              let at : come.node ≡ graph_thread.at =
              same_Some come.node graph_thread.at
              (sym come.at ∙ ap (option_map (λ (z : GraphThread). z.at)) (sym (alone_at done going) ∙ there)) in
              no_boundary graph_thread.at (subst (HasBefore y.plan.boundaries) at come.stands) (now_ends k graph_thread there ended)
        ]
        | inr past ↦ passed past.0 past.1.0 past.1.1 graph_thread there ended
      ]

      -- no thread has ended in what is kept then
      abbrev kept_then : FlowState
      kept_then = flow_kept (flat_of y) b.origin (b.schedule ++ replicate (steps_begun b.config k) k)

      settled : GraphThreadsSettle (flat_of y) b.origin b.config b.schedule k kept_then
      settled = graph_settles (flat_of y) b.origin b.config b.schedule k s.plan.formed inv.invariant inv.kept

      settled_goes_on : NoneEnded kept_then
      settled_goes_on t graph_thread there = by graph_thread.ended refl
        where
          by : (ended : Bool) → graph_thread.ended ≡ ended → ended ≡ false
          by false is = refl
          by true is = absurd (elim (same_or_other t k) [
            | inl same ↦ now_goes_on graph_thread (sym settled.own ∙ (ap (slice_get kept_then.graph_threads) (sym same) ∙ there)) is
            | inr other ↦ true≢false (sym is ∙ kept t graph_thread (sym (settled.others t other) ∙ there))
          ])

    -- ---- Whatever happens

    same_kept : (schedule : List ℕ) → NoneEnded (flow_kept (flat_of y) o schedule) → NoneEnded (flow_kept (flat_of y) o (schedule ++ []))
    same_kept schedule none = subst (λ (us : List ℕ). NoneEnded (flow_kept (flat_of y) o us)) (sym (append-nil schedule)) none

    pub none_kept : {m : Config} {schedule : List ℕ} (execution : Execution (flat_of y) o.source m schedule) →
        RespectsAll (flat_of y) y.plan.boundaries o execution → NoneEnded (flow_kept (flat_of y) o schedule)
    none_kept (begins memory stable) respects = fresh
    none_kept (then {schedule = schedule} before (steps_locally u attempts h)) respects = same_kept schedule (none_kept before respects.0)
    none_kept (then {schedule = schedule} before (stores u memory attempts h)) respects = same_kept schedule (none_kept before respects.0)
    none_kept (then {schedule = schedule} before (synchronises u h)) respects = same_kept schedule (none_kept before respects.0)
    none_kept (then {schedule = schedule} before (persists memory h)) respects = same_kept schedule (none_kept before respects.0)
    none_kept (then {schedule = schedule} before (crashes attempts h)) respects = same_kept schedule (none_kept before respects.0)
    none_kept (then {m} {next} {schedule} before (commits u attempts h)) respects =
        settled_goes_on (record { origin = o; config = m; schedule = schedule; execution = before; respects = respects.0 }) refl
        (none_kept before respects.0) u respects.1
