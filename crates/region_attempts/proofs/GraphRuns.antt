-- Runs of the graph in lockstep with the source's, and what a thread's own steps leave of it.
use Rattle.std.proofs.Common.{◌≡◌, ◌≢◌, refl, ℕ, zero, suc, ◌≤◌, List, [], ◌∷◌, ◌++◌, replicate, sym}
use Rattle.std.proofs.Common.{◌∙◌, ap, subst, arith, Option, Some, None, true, ⊎_elim, append_assoc}
use Rattle.std.specs.Prelude.{slice_get}
use Rattle.std.proofs.lemmas.Bool.{cases_eq}
use Rattle.c_tree.specs.Flats as f
use Rattle.c_tree.specs.Source as m
use Rattle.c_tree.specs.Source.{source_step}
use Rattle.c_tree.specs.WellFormed.{IsWellFormed}
use Rattle.source_machine.specs.Discipline.{StateKeeps}
use Rattle.source_machine.specs.StepExchanges.{steps_of, TransfersLock}
use Rattle.source_machine.proofs.Public as running
use Rattle.source_machine.proofs.Public.{runs_by, goes_on, run_keeps, steps_made, solo as solo_law}
use Rattle.flow_graph.specs.Lowering.{lowered}
use Rattle.flow_graph.specs.Actions.{FlowState, graph_step, graph_after}
use Rattle.flow_graph.specs.Lockstep.{Matches, StepsMatch}
use Rattle.flow_graph.proofs.Public.{steps_lockstep, after_by}
use Rattle.recovery_semantics.specs.Attempts.{solo, IsInner}
use Rattle.recovery_semantics.proofs.Public.{inner_rest, counted_own, counted_other, alone_no_hands, last_first, more_empty, none_of_other, prefix_runs}
use Rattle.recovery_semantics.proofs.Public.{last_step, prefix_hands}
use Rattle.region_attempts.specs.GraphStates.{flow_solo}
use Rattle.region_attempts.proofs.StepBisimulation.{MatchedState, others_stay, step_lockstep}

-- ---- Runs of both

module _ (x : f.Flat) (w : IsWellFormed x) where
  matched_by : (a : FlowState) (s : m.State) (ts : List ℕ) → Matches x a s → (o : Option FlowState) (p : Option m.State) → StepsMatch x o p →
      ((next : FlowState) (after : m.State) → Matches x next after → Matches x (graph_after (lowered x) next ts) (m.after_from after ts)) →
      Matches x (after_by (lowered x) a ts o) (running.after_by ts s p)
  matched_by a s ts h None None e more = h
  matched_by a s ts h None (Some after) e more = absurd e
  matched_by a s ts h (Some next) None e more = absurd e
  matched_by a s ts h (Some next) (Some after) e more = more next after e

  -- a schedule leads from states that match to states that match
  pub matched_run : (ts : List ℕ) (a : FlowState) (s : m.State) → Matches x a s → Matches x (graph_after (lowered x) a ts) (m.after_from s ts)
  matched_run [] a s h = h
  matched_run (t ∷ ts) a s h = matched_by a s ts h (graph_step (lowered x) a t) (source_step s t) (steps_lockstep x a s t w h) (matched_run ts)

  -- as one state of both
  abbrev pub matched_after : (ts : List ℕ) (a : FlowState) (s : m.State) → Matches x a s → MatchedState x
  matched_after ts a s h = record { flow = graph_after (lowered x) a ts; source = m.after_from s ts; matches = matched_run ts a s h }

  appended_by : (us vs : List ℕ) (a : FlowState) (o : Option FlowState) (p : Option m.State) → StepsMatch x o p → runs_by us p ≡ true →
      ((next : FlowState) (after : m.State) → Matches x next after → m.runs_from after us ≡ true →
      graph_after (lowered x) next (us ++ vs) ≡ graph_after (lowered x) (graph_after (lowered x) next us) vs) →
      after_by (lowered x) a (us ++ vs) o ≡ graph_after (lowered x) (after_by (lowered x) a us o) vs
  appended_by us vs a None None e r more = cc
  appended_by us vs a None (Some after) e r more = absurd e
  appended_by us vs a (Some next) None e r more = absurd e
  appended_by us vs a (Some next) (Some after) e r more = more next after e r

  -- one schedule after another
  pub appended : (us vs : List ℕ) (a : FlowState) (s : m.State) → Matches x a s → m.runs_from s us ≡ true →
      graph_after (lowered x) a (us ++ vs) ≡ graph_after (lowered x) (graph_after (lowered x) a us) vs
  appended [] vs a s h r = refl
  appended (u ∷ us) vs a s h r = appended_by us vs a (graph_step (lowered x) a u) (source_step s u) (steps_lockstep x a s u w h) r (appended us vs)

  made_by : (o : Option FlowState) (p : Option m.State) (next : m.State) → StepsMatch x o p → p ≡ Some next → (after : FlowState) × (o ≡ Some after)
  made_by None None next e h = cc
  made_by None (Some after) next e h = absurd e
  made_by (Some after) p next e h = (after, refl)

  -- where the source makes a step so does the graph
  pub made : (a : FlowState) (s next : m.State) (t : ℕ) → Matches x a s → source_step s t ≡ Some next →
      (after : FlowState) × (graph_step (lowered x) a t ≡ Some after)
  made a s next t h e = made_by (graph_step (lowered x) a t) (source_step s t) next (steps_lockstep x a s t w h) e

  after_one : (a next : FlowState) (t : ℕ) → graph_step (lowered x) a t ≡ Some next → graph_after (lowered x) a (t ∷ []) ≡ next
  after_one a next t h = ap (after_by (lowered x) a []) h

  -- one step more
  pub record OneMore (a : FlowState) (us : List ℕ) (t : ℕ) : Type 0 where
    pub next : FlowState
    pub is : graph_step (lowered x) (graph_after (lowered x) a us) t ≡ Some next
    pub after : graph_after (lowered x) a (us ++ t ∷ []) ≡ next

  pub one_more : (a : FlowState) (s next : m.State) (us : List ℕ) (t : ℕ) → Matches x a s → m.runs_from s us ≡ true →
      source_step (m.after_from s us) t ≡ Some next → OneMore a us t
  one_more a s next us t h runs e =
      let step = made (graph_after (lowered x) a us) (m.after_from s us) next t (matched_run us a s h) e in
      record {
        next = step.0;
        is = step.1;
        after = appended us (t ∷ []) a s h runs ∙ after_one (graph_after (lowered x) a us) step.0 t step.1;
      }

-- ---- A thread's own steps

pub own_more : (n t : ℕ) → replicate n t ++ t ∷ [] ≡ replicate (suc n) t
own_more n t = last_first n t [] ∙ more_empty (replicate (suc n) t)

pub inner_runs : (k n : ℕ) (s : m.State) (t : ℕ) → IsInner s t n → k ≤ n → m.runs_from s (replicate k t) ≡ true
inner_runs zero n s t inner l = refl
inner_runs (suc k) zero s t inner l = absurd (omega (arith, l))
inner_runs (suc k) (suc n) s t inner l =
    let first = inner 0 (omega arith) in
    ap (runs_by (replicate k t)) first.is ∙ inner_runs k n first.next t (inner_rest s t n inner first.next first.is) (omega (arith, l))

-- the step after so many
pub record OwnStep (x : f.Flat) (a : FlowState) (t n : ℕ) : Type 0 where
  pub next : FlowState
  pub is : graph_step (lowered x) (flow_solo x a t n) t ≡ Some next
  pub after : flow_solo x a t (suc n) ≡ next

pub own_step : (x : f.Flat) (w : IsWellFormed x) (a : FlowState) (s next : m.State) (t n : ℕ) → Matches x a s →
    m.runs_from s (replicate n t) ≡ true → source_step (solo s t n) t ≡ Some next → OwnStep x a t n
own_step x w a s next t n h runs e =
    let more = one_more x w a s next (replicate n t) t h runs e in
    record { next = more.next; is = more.is; after = ap (graph_after (lowered x) a) (sym (own_more n t)) ∙ more.after }

-- ---- A thread among others

module _ (x : f.Flat) (w : IsWellFormed x) (kept : FlowState) (K : m.State) (match : Matches x kept K) (keeps : StateKeeps x K) (t : ℕ) where
  -- the thread stands where its own steps alone lead
  abbrev pub IsAlone : List ℕ → Type 0
  IsAlone us = slice_get (graph_after (lowered x) kept us).graph_threads t ≡ slice_get (flow_solo x kept t (steps_of t us)).graph_threads t

  alone_other : (us : List ℕ) (u : ℕ) (next : m.State) → u ≢ t → m.runs_from K us ≡ true → source_step (m.after_from K us) u ≡ Some next →
      IsAlone us → IsAlone (us ++ u ∷ [])
  alone_other us u next n runs e h =
      let more = one_more x w kept K next us u match runs e in
      ap (λ (s : FlowState). slice_get s.graph_threads t) more.after
      ∙ (others_stay x (graph_after (lowered x) kept us) more.next u t (λ is. n (sym is)) more.is
      ∙ (h ∙ ap (λ (k : ℕ). slice_get (flow_solo x kept t k).graph_threads t) (sym (counted_other u t us n))))

  alone_own : (us : List ℕ) (next : m.State) → m.runs_from K us ≡ true → source_step (m.after_from K us) t ≡ Some next → ¬ (TransfersLock K us) →
      m.runs_from K (replicate (suc (steps_of t us)) t) ≡ true → IsAlone us → IsAlone (us ++ t ∷ [])
  alone_own us next runs e hands own h =
      let n = steps_of t us in
      let more = one_more x w kept K next us t match runs e in
      let s = solo_law x K us t keeps runs hands in
      let last = last_step K t n own in
      let step = own_step x w kept K last.next t n match s.runs last.is in
      ap (λ (z : FlowState). slice_get z.graph_threads t) more.after
      ∙ (step_lockstep x w t (matched_after x w us kept K match) (matched_after x w (replicate n t) kept K match) (run_keeps x K us keeps) s.same
      more.next step.next h more.is step.is
      ∙ (ap (λ (z : FlowState). slice_get z.graph_threads t) (sym step.after)
      ∙ ap (λ (k : ℕ). slice_get (flow_solo x kept t k).graph_threads t) (sym (counted_own t us))))

  alone_more : (us vs : List ℕ) (u : ℕ) → m.runs_from K (us ++ u ∷ vs) ≡ true → ¬ (TransfersLock K (us ++ u ∷ vs)) → IsAlone us →
      IsAlone (us ++ u ∷ [])
  alone_more us vs u runs hands h =
      let prefix = prefix_runs K us (u ∷ vs) runs in
      let made = steps_made (m.after_from K us) (u ∷ vs) (sym (goes_on K us (u ∷ vs) prefix).runs ∙ runs) in
      let join = append_assoc us (u ∷ []) vs in
      let runs' : m.runs_from K ((us ++ u ∷ []) ++ vs) ≡ true = ap (m.runs_from K) join ∙ runs in
      let hands' : ¬ (TransfersLock K ((us ++ u ∷ []) ++ vs)) = subst (λ (ks : List ℕ). ¬ (TransfersLock K ks)) (sym join) hands in
      let more_runs = prefix_runs K (us ++ u ∷ []) vs runs' in
      let more_hands = prefix_hands K (us ++ u ∷ []) vs hands' in
      let own = solo_law x K (us ++ u ∷ []) t keeps more_runs more_hands in
      ⊎_elim
      (λ is.
      let P : ℕ → Type 0 = λ k. IsAlone (us ++ k ∷ []) in
      let count : steps_of t (us ++ u ∷ []) ≡ suc (steps_of t us) = ap (λ (k : ℕ). steps_of t (us ++ k ∷ [])) is ∙ counted_own t us in
      let step : source_step (m.after_from K us) t ≡ Some made.0 = ap (source_step (m.after_from K us)) (sym is) ∙ made.1 in
      subst P (sym is) (alone_own us made.0 prefix step (prefix_hands K us (u ∷ vs) hands)
      (ap (λ (k : ℕ). m.runs_from K (replicate k t)) (sym count) ∙ own.runs) h))
      (λ n. alone_other us u made.0 n prefix made.1 h)
      (cases_eq u t)

  alone_from : (vs us : List ℕ) → m.runs_from K (us ++ vs) ≡ true → ¬ (TransfersLock K (us ++ vs)) → IsAlone us → IsAlone (us ++ vs)
  alone_from [] us runs hands h = subst IsAlone (sym (more_empty us)) h
  alone_from (u ∷ vs) us runs hands h =
      let join = append_assoc us (u ∷ []) vs in
      subst IsAlone join (alone_from vs (us ++ u ∷ []) (ap (m.runs_from K) join ∙ runs) (subst (λ (ks : List ℕ). ¬ (TransfersLock K ks)) (sym join) hands)
      (alone_more us vs u runs hands h))

  pub alone : (us : List ℕ) → m.runs_from K us ≡ true → ¬ (TransfersLock K us) → IsAlone us
  alone us runs hands = alone_from us [] runs hands refl

  -- another thread's steps alone leave its graph thread
  pub left_by : (u n : ℕ) → t ≢ u → m.runs_from K (replicate n u) ≡ true → slice_get (flow_solo x kept u n).graph_threads t ≡ slice_get kept.graph_threads t
  left_by u n d runs = alone (replicate n u) runs (alone_no_hands K n u)
      ∙ ap (λ (k : ℕ). slice_get (flow_solo x kept t k).graph_threads t) (none_of_other u t n d)
