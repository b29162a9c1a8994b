-- Attempts stay within their regions, whatever happens.
use Rattle.std.proofs.Common.{◌≡◌, ◌≢◌, inl, inr, refl, ℕ, zero, suc, ◌<◌, ◌≤◌, List, [], ◌++◌, max}
use Rattle.std.proofs.Common.{replicate, sym, ◌∙◌, ap, subst, arith, Option, Some, true, ⊎_elim}
use Rattle.std.specs.Prelude.{slice_get, Contains}
use Rattle.std.specs.Option.{option_map}
use Rattle.std.proofs.lemmas.Bool.{cases_eq}
use Rattle.c_tree.specs.Flats as f
use Rattle.c_tree.specs.Source as m
use Rattle.c_tree.specs.WellFormed.{IsWellFormed}
use Rattle.source_machine.specs.Mutexes.{locks, unlocks}
use Rattle.source_machine.specs.Discipline.{StateKeeps}
use Rattle.source_machine.proofs.Public.{run_keeps}
use Rattle.flow_graph.specs.Nodes.{successors}
use Rattle.flow_graph.specs.Lowering.{lowered}
use Rattle.flow_graph.specs.Actions.{GraphThread, FlowState, Ends, seen_by}
use Rattle.flow_graph.specs.Lockstep.{Matches}
use Rattle.flow_graph.specs.IdempotentCuts as cutting
use Rattle.flow_graph.specs.IdempotentCuts.{Boundaries, IsEdge, IsUnlock, HasBefore, BeginsRegion, past_lock, at_boundary, AreCuts}
use Rattle.flow_graph.proofs.Public.{Stepped, stepped, moved, goes_by}
use Rattle.recovery_semantics.specs.ElementHistories.{crashed}
use Rattle.recovery_semantics.specs.Attempts.{Attempt, attempt_at, solo, IsInner, IsAttempted}
use Rattle.recovery_semantics.specs.Configs.{Config, Invariant, attempt_of}
use Rattle.recovery_semantics.specs.Events.{ConfigStep, steps_locally, stores, synchronises, persists, commits}
use Rattle.recovery_semantics.specs.Events.{crashes, IsSettled, stepped as one_more, begun, settled_by, steps_begun}
use Rattle.recovery_semantics.specs.Executions.{first_config, kept_steps}
use Rattle.recovery_semantics.specs.Laws.{HasLocked, HasUnlocked}
use Rattle.recovery_semantics.proofs.Public.{held_same, inner_along, below_max, none_yet, more_empty, LastStep, last_step, first_runs, same_other, path}
use Rattle.region_attempts.specs.Origins.{Origin}
use Rattle.region_attempts.specs.GraphStates.{flow_kept, flow_solo, node_of, node_after}
use Rattle.region_attempts.specs.AttemptsInRegion.{Resumes, begins, past_unlock, StaysInside, HasCome, SettlesThere, RespectsBoundaries}
use Rattle.region_attempts.specs.Laws.{StartStays, EventsStay, NextResumes, NothingIsWritten, StaysResumed}
use Rattle.region_attempts.proofs.StepBisimulation.{step_lockstep, IsThere, is_there, moved_there}
use Rattle.region_attempts.proofs.GraphRuns.{matched_after, matched_run, appended, inner_runs, OwnStep, own_step, left_by}
use Rattle.region_attempts.proofs.Nodes.{locking_at, unlocking_at, lock_goes_on, unlock_goes_on}
use Rattle.region_attempts.proofs.GraphConfigs.{kept_matches}

number_there : {k n : ℕ} → Some k ≡ Some n → k ≡ n
number_there h = cc

-- ---- Where an execution begins

pub start_stays : StartStays
start_stays x b o memory t resumes = record {
  resumes = λ mutex node held at. resumes t mutex node held at;
  inside = λ k node low l at before.
      let none : (attempt_of (first_config x o.source memory) t).longest ≡ 0 = ap (λ (a : Attempt). a.longest) (none_yet x.threads t) in
      absurd (omega (arith, l, none));
}

-- ---- Steps that are begun

module _ (x : f.Flat) (b : Boundaries) (kept : FlowState) (old : Config) (u : ℕ) (stays : StaysInside x b kept old u) where
  -- the longest attempt is as long as before
  pub as_before : (next : Config) → next.kept ≡ old.kept → (attempt_of next u).longest ≡ (attempt_of old u).longest → StaysInside x b kept next u
  as_before next is same = record {
    resumes = λ mutex node held at. stays.resumes mutex node (ap (λ (s : m.State). slice_get s.holders mutex) (sym is) ∙ held) at;
    inside = λ k node low l at. stays.inside k node low (omega (arith, l, same)) at;
  }

  -- the longest attempt is one step longer, from no boundary
  pub one_longer : (next : Config) → Invariant x old → next.kept ≡ old.kept → attempt_of next u ≡ one_more (attempt_of old u) → ¬ (HasCome x b kept old u) →
      StaysInside x b kept next u
  one_longer next i is own free = record {
    resumes = λ mutex node held at. stays.resumes mutex node (ap (λ (s : m.State). slice_get s.holders mutex) (sym is) ∙ held) at;
    inside = λ k node low l at before.
        let a = attempt_of old u in
        let within = (i.tried u).within in
        let below : k < max a.longest (suc a.done) = subst (λ (z : Attempt). k < z.longest) own l in
        let here : a.done ≢ k → k < a.longest = λ n. ⊎_elim (λ c. c) (λ c. omega (arith, c, n, within)) (below_max k a.longest (suc a.done) below) in
        ⊎_elim
        (λ e. free (record {
          node = node;
          steps = subst (λ (n : ℕ). 0 < n) (sym e) low;
          at = ap (node_after x kept u) e ∙ at;
          stands = before;
        }))
        (λ n. stays.inside k node low (here n) at before)
        (cases_eq a.done k);
  }

-- ---- Steps that are kept

module _ (x : f.Flat) (b : Boundaries) (w : IsWellFormed x) (cuts : AreCuts (lowered x) b) (old : Config) (t : ℕ) (i : Invariant x old) (kept : FlowState)
    (match : Matches x kept old.kept) where
  abbrev K : m.State
  K = old.kept

  abbrev c : ℕ
  c = steps_begun old t

  abbrev a : Attempt
  a = attempt_of old t

  abbrev K' : m.State
  K' = solo K t c

  abbrev kept' : FlowState
  kept' = flow_solo x kept t c

  match' : Matches x kept' K'
  match' = matched_run x w (replicate c t) kept K match

  -- ---- The others

  module _ (u : ℕ) (n : u ≢ t) (stays : StaysInside x b kept old u) where
    abbrev longest : ℕ
    longest = (attempt_of old u).longest

    graph_thread_same : slice_get kept'.graph_threads u ≡ slice_get kept.graph_threads u
    graph_thread_same = left_by x w kept K match i.keeps u t c n (first_runs x old t i)

    inner : IsInner K u longest
    inner = (i.tried u).inner

    keeps' : StateKeeps x K'
    keeps' = run_keeps x K (replicate c t) i.keeps

    inner' : IsInner K' u longest
    inner' = inner_along x u longest K' K keeps' i.keeps (same_other x old t i u n) inner

    graph_threads_along : (k : ℕ) → k ≤ longest → slice_get (flow_solo x kept' u k).graph_threads u ≡ slice_get (flow_solo x kept u k).graph_threads u
    graph_threads_along zero l = graph_thread_same
    graph_threads_along (suc k) l =
        let below : k < longest = omega (arith, l) in
        let runs : k ≤ longest = omega (arith, l) in
        let one = own_step x w kept' K' (inner' k below).next u k match' (inner_runs k longest K' u inner' runs) (inner' k below).is in
        let two = own_step x w kept K (inner k below).next u k match (inner_runs k longest K u inner runs) (inner k below).is in
        ap (λ (s : FlowState). slice_get s.graph_threads u) one.after
        ∙ (step_lockstep x w u (matched_after x w (replicate k u) kept' K' match') (matched_after x w (replicate k u) kept K match)
        (run_keeps x K' (replicate k u) keeps') (path x old t i u k n runs) one.next two.next (graph_threads_along k runs) one.is two.is
        ∙ ap (λ (s : FlowState). slice_get s.graph_threads u) (sym two.after))

    abbrev number_of : Option GraphThread → Option ℕ
    number_of o = option_map (λ (z : GraphThread). z.at) o

    pub others_stay_in : (attempts : List Attempt) → attempt_at attempts u ≡ attempt_of old u → StaysInside x b kept' (settled_by old t attempts) u
    others_stay_in attempts same = record {
      resumes = λ mutex node held at. stays.resumes mutex node
          (held_same u K'.holders K.holders mutex (same_other x old t i u n).held held) (sym (ap number_of graph_thread_same) ∙ at);
      inside = λ k node low l at before.
          let below : k < longest = subst (λ (z : Attempt). k < z.longest) same l in
          stays.inside k node low below (sym (ap number_of (graph_threads_along k (omega (arith, below)))) ∙ at) before;
    }

  -- ---- The thread itself

  edge_to : (n : ℕ) (step : OwnStep x kept t n) (st : Stepped (lowered x) (flow_solo x kept t n) step.next t) (node : ℕ) →
      node_after x kept t (suc n) ≡ Some node → (st.effect ≡ Ends → ⊥) → IsEdge (lowered x) st.graph_thread.at node
  edge_to n step st node at never =
      let there = moved_there x (flow_solo x kept t n) step.next t st in
      let is : (moved st.graph_thread st.effect).at ≡ node =
      number_there (sym (ap (λ (s : FlowState). node_of s t) step.after ∙ ap (option_map (λ (z : GraphThread). z.at)) there) ∙ at) in
      elim (goes_by st.node.action (seen_by (flow_solo x kept t n) st.graph_thread) st.graph_thread st.effect st.does) [
        | inl goes ↦ record { is = st.node; at = st.at; goes = subst (λ (z : ℕ). Contains (successors st.node.action) z) is goes }
        | inr over ↦ absurd (never over)
      ]

  -- the thread's last step, which passed a mutex
  module _ (n : ℕ) (runs : m.runs_from K (replicate (suc n) t) ≡ true) (prefix : m.runs_from K (replicate n t) ≡ true) (mutex node : ℕ)
      (at : node_after x kept t (suc n) ≡ Some node) where
    last : LastStep K t n
    last = last_step K t n runs

    step : OwnStep x kept t n
    step = own_step x w kept K last.next t n match prefix last.is

    st : Stepped (lowered x) (flow_solo x kept t n) step.next t
    st = stepped (lowered x) (flow_solo x kept t n) step.next t step.is

    th : IsThere x (solo K t n) t st.graph_thread st.node
    th = is_there x w t (flow_solo x kept t n) (solo K t n) (matched_run x w (replicate n t) kept K match) st.graph_thread st.node st.found st.at

    begins_after : locks (solo K t n) t ≡ Some mutex → BeginsRegion (lowered x) b node
    begins_after h =
        let action = locking_at x (solo K t n) t st.graph_thread st.node th mutex h in
        past_lock st.graph_thread.at (cuts.past_locks st.graph_thread.at (cutting.locks st.node action.0 action.1 st.at action.2))
        (edge_to n step st node at (λ over. lock_goes_on st.node.action action.0 action.1 (seen_by (flow_solo x kept t n) st.graph_thread) action.2
        (st.does ∙ ap Some over)))

    stands_after : unlocks (solo K t n) t ≡ Some mutex → (from : ℕ) × IsUnlock (lowered x) from × IsEdge (lowered x) from node
    stands_after h =
        let action = unlocking_at x (solo K t n) t st.graph_thread st.node th mutex h in (
          st.graph_thread.at,
          cutting.unlocks st.node action.0 action.1 st.at action.2,
          edge_to n step st node at (λ over. unlock_goes_on st.node.action action.0 action.1 (seen_by (flow_solo x kept t n) st.graph_thread) action.2
              (st.does ∙ ap Some over)),
        )

  prefix_of : m.runs_from K (replicate a.done t) ≡ true
  prefix_of = let tried = i.tried t in inner_runs a.done a.longest K t tried.inner tried.within

  runs_of : c ≡ suc a.done → m.runs_from K (replicate (suc a.done) t) ≡ true
  runs_of e = ap (λ (k : ℕ). m.runs_from K (replicate k t)) (sym e) ∙ first_runs x old t i

  at_count : (node k : ℕ) → c ≡ k → node_of kept' t ≡ Some node → node_after x kept t k ≡ Some node
  at_count node k e at = ap (λ (j : ℕ). node_after x kept t j) (sym e) ∙ at

  come_begins : (node : ℕ) → c ≡ a.done → HasCome x b kept old t → node_of kept' t ≡ Some node → BeginsRegion (lowered x) b node
  come_begins node e come at =
      let same_node : come.node ≡ node = number_there (sym come.at ∙ at_count node a.done e at) in
      at_boundary (subst (HasBefore b) same_node come.stands)

  pub resumes_there : (node : ℕ) → node_of kept' t ≡ Some node →
      (c ≡ a.done → HasCome x b kept old t → BeginsRegion (lowered x) b node) ×
      ((mutex : ℕ) → HasLocked old t mutex → BeginsRegion (lowered x) b node) ×
      ((mutex : ℕ) → HasUnlocked old t mutex → (from : ℕ) × IsUnlock (lowered x) from × IsEdge (lowered x) from node)
  resumes_there node at = (
    λ e come. come_begins node e come at,
    λ mutex h. begins_after a.done (runs_of h.begun) prefix_of mutex node (at_count node (suc a.done) h.begun at) h.locks_it,
    λ mutex h. stands_after a.done (runs_of h.begun) prefix_of mutex node (at_count node (suc a.done) h.begun at) h.unlocks_it,
  )

  leads_by : StaysInside x b kept old t → SettlesThere x b kept old t → (mutex node : ℕ) → slice_get K'.holders mutex ≡ Some (Some t) →
      node_of kept' t ≡ Some node → Resumes (lowered x) b node
  leads_by stays there mutex node held at = ⊎_elim
      (λ e. ⊎_elim
      (λ none.
      let zero_steps : c ≡ 0 = e ∙ none in
      stays.resumes mutex node (ap (λ (k : ℕ). slice_get (solo K t k).holders mutex) (sym zero_steps) ∙ held) (at_count node 0 zero_steps at))
      (λ come. begins (come_begins node e come at))
      (there e))
      (λ p. ⊎_elim
      (λ h. begins (begins_after a.done (runs_of p.0) prefix_of p.1.0 node (at_count node (suc a.done) p.0 at) h))
      (λ h.
      let after = stands_after a.done (runs_of p.0) prefix_of p.1.0 node (at_count node (suc a.done) p.0 at) h in
      past_unlock after.0 after.1 after.2)
      p.1.1)
      (i.tried t).begun

  pub settles_stays : (attempts : List Attempt) → IsSettled old t attempts → SettlesThere x b kept old t →
      ((u : ℕ) → StaysInside x b kept old u) → (u : ℕ) → StaysInside x b kept' (settled_by old t attempts) u
  settles_stays attempts e there stays u = ⊎_elim
      (λ same. subst (λ (k : ℕ). StaysInside x b kept' (settled_by old t attempts) k) (sym same) (record {
        resumes = leads_by (stays t) there;
        inside = λ k node low l at before.
            let none : (attempt_of (settled_by old t attempts) t).longest ≡ 0 = ap (λ (z : Attempt). z.longest) e.attempt.own in
            absurd (omega (arith, l, none));
      }))
      (λ n. others_stay_in u n (stays u) attempts (e.attempt.others u n))
      (cases_eq u t)

-- ---- Whatever happens

module _ (x : f.Flat) (b : Boundaries) (w : IsWellFormed x) (cuts : AreCuts (lowered x) b) (o : Origin x) (old : Config) (schedule : List ℕ)
    (s : StaysResumed x b o old schedule) where
  abbrev kept : FlowState
  kept = flow_kept x o schedule

  kept_same : (next : Config) (u : ℕ) → StaysInside x b kept next u → StaysInside x b (flow_kept x o (schedule ++ [])) next u
  kept_same next u h = subst (λ (us : List ℕ). StaysInside x b (flow_kept x o us) next u) (sym (more_empty schedule)) h

  begun_stays : (next : Config) (t u : ℕ) → next.kept ≡ old.kept → IsAttempted old.attempts next.attempts t (one_more (attempt_of old t)) →
      ¬ (HasCome x b kept old t) → StaysInside x b kept next u
  begun_stays next t u is attempt free = ⊎_elim
      (λ same. subst (λ (k : ℕ). StaysInside x b kept next k) (sym same) (one_longer x b kept old t (s.inside t) next s.resumed.invariant is attempt.own free))
      (λ n. as_before x b kept old u (s.inside u) next is (ap (λ (z : Attempt). z.longest) (attempt.others u n)))
      (cases_eq u t)

  kept_more : (t n : ℕ) → flow_kept x o (schedule ++ replicate n t) ≡ flow_solo x kept t n
  kept_more t n = appended x w schedule (replicate n t) o.flow o.source o.matches s.resumed.kept.runs

  pub event_stays : (next : Config) (h : ConfigStep old next) → RespectsBoundaries x b kept h → (u : ℕ) →
      StaysInside x b (flow_kept x o (schedule ++ kept_steps h)) next u
  event_stays _ (steps_locally t attempts h) free u = kept_same _ u (begun_stays (begun old t old.memory attempts) t u refl h.attempt free)
  event_stays _ (stores t memory attempts h) free u = kept_same _ u (begun_stays (begun old t memory attempts) t u refl h.attempt free)
  event_stays _ (synchronises t h) free u = kept_same _ u (as_before x b kept old u (s.inside u) (begun old t old.memory old.attempts) refl refl)
  event_stays _ (persists memory h) free u = kept_same _ u (as_before x b kept old u (s.inside u)
      (record { kept = old.kept; uncommitted = old.uncommitted; memory = memory; attempts = old.attempts }) refl refl)
  event_stays _ (commits t attempts h) there u =
      subst (λ (z : FlowState). StaysInside x b z (settled_by old t attempts) u) (sym (kept_more t (steps_begun old t)))
      (settles_stays x b w cuts old t s.resumed.invariant kept (kept_matches x w o old.kept schedule s.resumed.kept) attempts h there s.inside u)
  event_stays _ (crashes attempts h) free u = kept_same _ u (as_before x b kept old u (s.inside u)
      (record { kept = old.kept; uncommitted = []; memory = crashed old.memory; attempts = attempts }) refl (h.longest u))

pub events_stay : EventsStay
events_stay x b o old next schedule w cuts i by h respects stays u =
    event_stays x b w cuts o old schedule (record { resumed = record { invariant = i; kept = by }; inside = stays }) next h respects u

-- ---- Where steps are kept

pub next_resumes : NextResumes
next_resumes x b o old schedule t node w cuts i by at =
    let c = steps_begun old t in
    let there : node_of (flow_solo x (flow_kept x o schedule) t c) t ≡ Some node =
    ap (λ (s : FlowState). node_of s t)
    (sym (appended x w schedule (replicate c t) o.flow o.source o.matches by.runs)) ∙ at in
    let r = resumes_there x b w cuts old t i (flow_kept x o schedule) (kept_matches x w o old.kept schedule by) node there in
    record { come = r.0; locked = r.1; unlocked = r.2 }

pub nothing_is_written : NothingIsWritten
nothing_is_written old t v e none wr = let within = wr.within in omega (arith, none, within)
