-- The steps of a thread that a crash would undo are those of its attempt, and at most the lock or unlock that ends it.
use Rattle.std.proofs.Common.{◌≡◌, ◌⊎◌, inl, inr, refl, ℕ, ◌+◌, ◌<◌}
use Rattle.std.proofs.Common.{replicate, ap, sym, subst, arith, true, Option, Some, None}
use Rattle.std.specs.Prelude.{slice_get}
use Rattle.std.specs.Option.{option_map}
use Rattle.std.proofs.lemmas.Bool.{cases_lt}
use Rattle.c_tree.specs.Source.{State, runs_from}
use Rattle.source_machine.specs.StepExchanges.{steps_of}
use Rattle.source_machine.proofs.Public.{solo as solo_law}
use Rattle.c_tree.specs.Exprs.{LockName}
use Rattle.flow_graph.specs.Nodes.{Graph, Lock, Node}
use Rattle.flow_graph.specs.Lowering.{lowered, threads_nodes}
use Rattle.flow_graph.specs.Actions.{GraphThread}
use Rattle.flow_graph.specs.Lockstep.{Matches}
use Rattle.flow_graph.specs.Liveness.{NodeAt}
use Rattle.flow_graph.specs.IdempotentCuts.{IsUnlock, unlocks, HasBefore, Writes}
use Rattle.flow_graph.proofs.Public.{node_shaped, nodes_at}
use Rattle.recovery_semantics.specs.Attempts.{solo, IsInnerStep, PassesMutex}
use Rattle.recovery_semantics.specs.Configs.{Config, AreBegun, attempt_of}
use Rattle.region_attempts.specs.GraphStates.{node_after, flow_solo}
use Rattle.region_attempts.proofs.Public.{IsThere, is_there, locking_at, unlocking_at, writing_stores}
use Rattle.thread_code.specs.Plans.{IsLoggedAt}
use Rattle.crash_simulation.specs.Systems.{System, IsSystem, flat_of}
use Rattle.crash_simulation.specs.AbstractRuns.{AbstractRun, kept_of}
use Rattle.crash_simulation.specs.AccountRelation.{MachinesResume}
use Rattle.crash_simulation.proofs.Public.{as_source, resumed}
use Rattle.compiler_correctness.specs.Translations.{Translation, steps}
use Rattle.compiler_correctness.specs.Laws.{translation_of}
use Rattle.compiler_correctness.proofs.Public.{kept_is}
use Rattle.crash_bounds.specs.Losses.{CrashesUndoOneStretch, kept_state, undone}

-- ---- A node before which a boundary stands, at which a thread passes a mutex

module _ (y : System) (s : IsSystem y) (b : AbstractRun y) (thread : ℕ) where
  abbrev m : Config
  m = b.config

  record StandsAt (steps node : ℕ) : Type 0 where
    graph_thread : GraphThread
    found : slice_get (flow_solo (flat_of y) (kept_of y b) thread steps).graph_threads thread ≡ Some graph_thread
    at : graph_thread.at ≡ node

  stands_at : (steps node : ℕ) → node_after (flat_of y) (kept_of y b) thread steps ≡ Some node → StandsAt steps node
  stands_at steps node is = by (slice_get (flow_solo (flat_of y) (kept_of y b) thread steps).graph_threads thread) refl is
    where
      by : (o : Option GraphThread) → slice_get (flow_solo (flat_of y) (kept_of y b) thread steps).graph_threads thread ≡ o →
          option_map (λ (w : GraphThread). w.at) o ≡ Some node → StandsAt steps node
      by None found e = absurd (let never : None ≡ Some node = e in cc)
      by (Some graph_thread) found e =
          let same : Some graph_thread.at ≡ Some node = e in
          record { graph_thread = graph_thread; found = found; at = cc }

  is_unlock : (steps node : ℕ) → node_after (flat_of y) (kept_of y b) thread steps ≡ Some node → HasBefore y.plan.boundaries node →
      (mutex : ℕ) × PassesMutex (solo m.kept thread steps) thread mutex → IsUnlock (lowered (flat_of y)) node
  is_unlock steps node is has (mutex, passes) = by (s.plan.at_writes.before node has)
    where
      stands : StandsAt steps node
      stands = stands_at steps node is

      -- at a node that takes no lock
      by_node : (x : Node) → NodeAt (lowered (flat_of y)) node x → ((lock : LockName) (next : ℕ) → x.action ≡ Lock lock next → ⊥) →
          PassesMutex (solo m.kept thread steps) thread mutex → IsUnlock (lowered (flat_of y)) node
      by_node x at free passed = by_passing passed
        where
          there : IsThere (flat_of y) (solo m.kept thread steps) thread stands.graph_thread x
          there =
              is_there (flat_of y) s.plan.formed thread (flow_solo (flat_of y) (kept_of y b) thread steps) (solo m.kept thread steps)
              ((as_source y s b).solo_matches thread steps) stands.graph_thread x stands.found
              (subst (λ (n : ℕ). NodeAt (lowered (flat_of y)) n x) (sym stands.at) at)

          by_passing : PassesMutex (solo m.kept thread steps) thread mutex → IsUnlock (lowered (flat_of y)) node
          by_passing (inl locks) =
              let action = locking_at (flat_of y) (solo m.kept thread steps) thread stands.graph_thread x there mutex locks in
              absurd (free action.0 action.1 action.2)
          by_passing (inr unlocks_it) =
              let action = unlocking_at (flat_of y) (solo m.kept thread steps) thread stands.graph_thread x there mutex unlocks_it in
              unlocks x action.0 action.1 at action.2

      lowered_at : (x : Node) → NodeAt y.plan.graph node x → NodeAt (lowered (flat_of y)) node x
      lowered_at x at = subst (λ (g : Graph). NodeAt g node x) s.plan.lowered at

      by : IsUnlock y.plan.graph node ⊎ Writes y.plan.graph node ⊎ IsLoggedAt y.plan node → IsUnlock (lowered (flat_of y)) node
      by (inl unlock) = subst (λ (g : Graph). IsUnlock g node) s.plan.lowered unlock
      by (inr (inl w)) =
          let at = lowered_at w.is w.at in
          let stores = writing_stores (threads_nodes (flat_of y) (flat_of y).threads 0) w.is w.is.action w.written
          (node_shaped (flat_of y) node w.is (nodes_at (flat_of y) node w.is at)) w.writes in
          by_node w.is at (λ lock next locked. (let stored = stores.is in cc)) passes
      by (inr (inr z)) =
          let assigns = z.logged.assigns in
          by_node assigns.is (lowered_at assigns.is assigns.at) (λ lock next locked. (let assigned = assigns.action in cc)) passes

  -- ---- The stretch

  abbrev begun : ℕ
  begun = steps_of thread m.uncommitted

  runs_alone : runs_from m.kept (replicate begun thread) ≡ true
  runs_alone =
      let i = (resumed y s b).resumed.invariant in
      (solo_law (flat_of y) m.kept m.uncommitted thread i.keeps i.runs i.hands).runs

  done_or_last : AreBegun m thread → (k : ℕ) → k < begun →
      (k < (attempt_of m thread).done) ⊎
      ((k ≡ (attempt_of m thread).done) × (k + 1 ≡ begun) × ((mutex : ℕ) × PassesMutex (solo m.kept thread k) thread mutex))
  done_or_last (inl same) k below = inl (omega (arith, same, below))
  done_or_last (inr (more, passes)) k below = elim (cases_lt k (attempt_of m thread).done) [
    | inl less ↦ inl less
    | inr last ↦
        let is : (attempt_of m thread).done ≡ k = omega (arith, more, below, last) in
        inr (sym is, omega (arith, more, is), subst (λ (j : ℕ). (mutex : ℕ) × PassesMutex (solo m.kept thread j) thread mutex) is passes)
  ]

  inner_before : (k : ℕ) → k + 1 < begun → IsInnerStep (solo m.kept thread k) thread
  inner_before k below =
      let tried = (resumed y s b).resumed.invariant.tried thread in
      let within = tried.within in
      elim (done_or_last tried.begun k (omega (arith, below))) [
        | inl less ↦ tried.inner k (omega (arith, less, within))
        | inr last ↦ (let at = last.1 in absurd (omega (arith, at, below)))
      ]

  inside_before : (k node : ℕ) → 0 < k → k < begun → node_after (flat_of y) (kept_of y b) thread k ≡ Some node → HasBefore y.plan.boundaries node →
      (k + 1 ≡ begun) × IsUnlock (lowered (flat_of y)) node
  inside_before k node some below is has =
      let tried = (resumed y s b).resumed.invariant.tried thread in
      let within = tried.within in
      elim (done_or_last tried.begun k below) [
        | inl less ↦ absurd (((resumed y s b).inside thread).inside k node some (omega (arith, less, within)) is has)
        | inr last ↦ (last.1, is_unlock k node is has last.2)
      ]

-- ---- In the words of the account

pub crashes_undo_one_stretch : MachinesResume → CrashesUndoOneStretch
crashes_undo_one_stretch machines y s events thread =
    let resumes = machines y s events in
    let b = resumes.is.stands.abstract in
    let c : Translation = translation_of y in
    let kept : b.config.kept ≡ kept_state c events = sym (kept_is y s _ (steps c events) resumes) in
    let count : steps_of thread b.config.uncommitted ≡ undone c events thread = ap (steps_of thread) (sym resumes.is.counted.pending) in
    record {
      flow = kept_of y b;
      matches = subst (λ (z : State). Matches c.flat (kept_of y b) z) kept (as_source y s b).kept_matches;
      runs =
          subst (λ (n : ℕ). runs_from (kept_state c events) (replicate n thread) ≡ true) count
          (subst (λ (z : State). runs_from z (replicate (steps_of thread b.config.uncommitted) thread) ≡ true) kept (runs_alone y s b thread));
      inner = λ k below.
          subst (λ (z : State). IsInnerStep (solo z thread k) thread) kept (inner_before y s b thread k (omega (arith, count, below)));
      inside = λ k node some below is has.
          let found = inside_before y s b thread k node some (omega (arith, count, below)) is has in
          let last = found.0 in
          (omega (arith, last, count), found.1);
    }
