-- The graph's state matches the source's, and follows what happens.
use Rattle.std.proofs.Common.{◌≡◌, ◌≢◌, refl, ℕ, zero, suc, ◌+◌, List, [], ◌∷◌, ◌++◌, replicate, sym, ◌∙◌, ap, subst, arith, Some, Bool, ⊎_elim}
use Rattle.std.specs.Prelude.{slice_get, if◌then◌else◌}
use Rattle.std.proofs.lemmas.Bool.{cases_eq}
use Rattle.c_tree.specs.Flats as f
use Rattle.c_tree.specs.Source as m
use Rattle.c_tree.specs.WellFormed.{IsWellFormed}
use Rattle.source_machine.specs.StepExchanges.{steps_of, without}
use Rattle.source_machine.proofs.Public.{exchange}
use Rattle.flow_graph.specs.Lowering.{lowered}
use Rattle.flow_graph.specs.Actions.{FlowState, graph_step, graph_after}
use Rattle.flow_graph.specs.Lockstep.{Matches}
use Rattle.recovery_semantics.specs.Attempts.{store_ahead}
use Rattle.recovery_semantics.specs.Configs.{Config, Invariant, now}
use Rattle.recovery_semantics.specs.Events.{ConfigStep, steps_locally, stores, synchronises, persists, commits, crashes, steps_begun}
use Rattle.recovery_semantics.specs.Executions.{kept_steps}
use Rattle.recovery_semantics.specs.Laws.{IsKeptBy}
use Rattle.recovery_semantics.proofs.Public.{store_inner, equal_self, unequal_of, none_left, others_left, more_empty, first_runs}
use Rattle.region_attempts.specs.Origins.{Origin}
use Rattle.region_attempts.specs.GraphStates.{flow_kept, flow_now, flow_solo, FollowsEvent}
use Rattle.region_attempts.specs.Laws.{GraphMatches, GraphFollows, GraphSettles}
use Rattle.region_attempts.proofs.GraphRuns.{matched_run, appended, one_more, alone, left_by}
use Rattle.region_attempts.proofs.GraphConfigs.{kept_matches}

-- ---- Standing

pub graph_stands : GraphMatches
graph_stands x o old schedule w i by =
    let match = kept_matches x w o old.kept schedule by in
    record {
      kept_matches = match;
      now_matches = matched_run x w old.uncommitted (flow_kept x o schedule) old.kept match;
      solo_matches = λ u n. matched_run x w (replicate n u) (flow_kept x o schedule) old.kept match;
      alone = λ u. alone x w (flow_kept x o schedule) old.kept match i.keeps u old.uncommitted i.runs i.hands;
    }

-- ---- Counts

abbrev count_by : Bool → ℕ → ℕ
count_by b n = if b then suc n else n

own_counted : (n t : ℕ) (us : List ℕ) → steps_of t (replicate n t ++ us) ≡ n + steps_of t us
own_counted zero t us = omega arith
own_counted (suc n) t us =
    let more = own_counted n t us in
    let one : suc (steps_of t (replicate n t ++ us)) ≡ suc n + steps_of t us = omega (arith, more) in
    ap (λ (b : Bool). count_by b (steps_of t (replicate n t ++ us))) (equal_self t) ∙ one

other_counted : (n t u : ℕ) (us : List ℕ) → t ≢ u → steps_of u (replicate n t ++ us) ≡ steps_of u us
other_counted zero t u us d = refl
other_counted (suc n) t u us d =
    ap (λ (b : Bool). count_by b (steps_of u (replicate n t ++ us))) (unequal_of t u d) ∙ other_counted n t u us d

-- a thread's first steps before all others are as many
moved_counted : (t u : ℕ) (us : List ℕ) → steps_of u (replicate (steps_of t us) t ++ without (steps_of t us) t us) ≡ steps_of u us
moved_counted t u us = ⊎_elim
    (λ same.
    let P : ℕ → Type 0 = λ k. steps_of k (replicate (steps_of t us) t ++ without (steps_of t us) t us) ≡ steps_of k us in
    let none = none_left t (steps_of t us) us refl in
    let own = own_counted (steps_of t us) t (without (steps_of t us) t us) in
    let here : P t = omega (arith, none, own) in
    subst P (sym same) here)
    (λ d. other_counted (steps_of t us) t u (without (steps_of t us) t us) (λ e. d (sym e)) ∙ others_left t u (steps_of t us) us d)
    (cases_eq u t)

-- ---- States

each_same : {X : Type 0} (xs ys : List X) → ((k : ℕ) → slice_get xs k ≡ slice_get ys k) → xs ≡ ys
each_same [] [] h = refl
each_same [] (y ∷ ys) h = let none = h 0 in cc
each_same (x ∷ xs) [] h = let none = h 0 in cc
each_same (x ∷ xs) (y ∷ ys) h =
    let first = h 0 in
    let one : x ≡ y = cc in
    let more : xs ≡ ys = each_same xs ys (λ k. h (suc k)) in
    λ i. one i ∷ more i

same_state : (x : f.Flat) (a b : FlowState) (s : m.State) → Matches x a s → Matches x b s →
    ((u : ℕ) → slice_get a.graph_threads u ≡ slice_get b.graph_threads u) → a ≡ b
same_state x a b s h k each =
    let variables : a.variables ≡ b.variables = h.variables ∙ sym k.variables in
    let holders : a.holders ≡ b.holders = h.holders ∙ sym k.holders in
    let graph_threads : a.graph_threads ≡ b.graph_threads = each_same a.graph_threads b.graph_threads each in
    λ i. record { variables = variables i; holders = holders i; graph_threads = graph_threads i }

-- ---- Following

module _ (x : f.Flat) (w : IsWellFormed x) (o : Origin x) (old : Config) (i : Invariant x old) (schedule : List ℕ)
    (by : IsKeptBy o.source old.kept schedule) where
  abbrev kept : FlowState
  kept = flow_kept x o schedule

  match : Matches x kept old.kept
  match = kept_matches x w o old.kept schedule by

  abbrev Begun : (thread : ℕ) → (ks : List ℕ) → Type 0
  Begun t ks = graph_step (lowered x) (flow_now x kept old) t ≡ Some (graph_after (lowered x) (flow_kept x o ks) (old.uncommitted ++ t ∷ []))

  begun_follows : (t : ℕ) (next : m.State) → m.source_step (now old) t ≡ Some next → Begun t (schedule ++ [])
  begun_follows t next h =
      let more = one_more x w kept old.kept next old.uncommitted t match i.runs h in
      let here : Begun t schedule = more.is ∙ ap Some (sym more.after) in
      subst (Begun t) (sym (more_empty schedule)) here

  module _ (t : ℕ) where
    abbrev c : ℕ
    c = steps_begun old t

    abbrev rest : List ℕ
    rest = without c t old.uncommitted

    -- the graph makes the thread's steps first, too
    moved_after : graph_after (lowered x) kept (replicate c t ++ rest) ≡ graph_after (lowered x) (flow_kept x o (schedule ++ replicate c t)) rest
    moved_after = appended x w (replicate c t) rest kept old.kept match (first_runs x old t i)
        ∙ ap (λ (s : FlowState). graph_after (lowered x) s rest)
        (sym (appended x w schedule (replicate c t) o.flow o.source o.matches by.runs))

    settled_follows : graph_after (lowered x) (flow_kept x o (schedule ++ replicate c t)) rest ≡ flow_now x kept old
    settled_follows =
        let e = exchange x old.kept old.uncommitted t c i.keeps i.runs i.hands (omega arith) in
        let now_matches = matched_run x w old.uncommitted kept old.kept match in
        let moved_matches = subst (Matches x (graph_after (lowered x) kept (replicate c t ++ rest))) e.after
        (matched_run x w (replicate c t ++ rest) kept old.kept match) in
        sym moved_after ∙ same_state x (graph_after (lowered x) kept (replicate c t ++ rest)) (flow_now x kept old) (now old) moved_matches now_matches
        (λ u. alone x w kept old.kept match i.keeps u (replicate c t ++ rest) e.runs e.hands
        ∙ (ap (λ (k : ℕ). slice_get (flow_solo x kept u k).graph_threads u) (moved_counted t u old.uncommitted)
        ∙ sym (alone x w kept old.kept match i.keeps u old.uncommitted i.runs i.hands)))

  -- a state that is kept with no more steps
  still : (us : List ℕ) → graph_after (lowered x) (flow_kept x o (schedule ++ [])) us ≡ graph_after (lowered x) kept us
  still us = ap (λ (ks : List ℕ). graph_after (lowered x) (flow_kept x o ks) us) (more_empty schedule)

  stores_next : (t : ℕ) (store : m.Pending) → store_ahead (now old) t ≡ Some store → (next : m.State) × (m.source_step (now old) t ≡ Some next)
  stores_next t store h = let inner = store_inner (now old) t store h in (inner.next, inner.is)

  follows : (next : Config) (h : ConfigStep old next) →
      FollowsEvent x kept (flow_now x kept old) (flow_now x (flow_kept x o (schedule ++ kept_steps h)) next) h
  follows _ (steps_locally t attempts h) = begun_follows t h.step.next h.step.is
  follows _ (stores t memory attempts h) = let next = stores_next t h.store h.ahead in begun_follows t next.0 next.1
  follows _ (synchronises t h) = begun_follows t h.next h.is
  follows _ (persists memory h) = still old.uncommitted
  follows _ (commits t attempts h) = settled_follows t
  follows _ (crashes attempts h) = still []

pub graph_follows : GraphFollows
graph_follows x o old next schedule w i by h = follows x w o old i schedule by next h

pub graph_settles : GraphSettles
graph_settles x o old schedule t w i by =
    let kept = flow_kept x o schedule in
    let match = kept_matches x w o old.kept schedule by in
    let c = steps_begun old t in
    let after : flow_kept x o (schedule ++ replicate c t) ≡ flow_solo x kept t c =
    appended x w schedule (replicate c t) o.flow o.source o.matches by.runs in
    record {
      own = ap (λ (s : FlowState). slice_get s.graph_threads t) after ∙ sym (alone x w kept old.kept match i.keeps t old.uncommitted i.runs i.hands);
      others = λ u d. ap (λ (s : FlowState). slice_get s.graph_threads u) after ∙ left_by x w kept old.kept match i.keeps u t c d (first_runs x old t i);
    }
