-- No step of the graph makes a reference null that is known not to be where a thread stands then.
use Rattle.std.proofs.Common.{◌≡◌, ◌≢◌, inl, inr, ⊎_elim, refl, sym, ◌∙◌, ap, subst, ℕ, ◌==◌, List, [], ◌∷◌, Bool, true, false, not, Option, Some, None}
use Rattle.std.proofs.Common.{slice_index_or}
use Rattle.std.specs.Prelude.{slice_get, ℤ, pos, if◌then◌else◌}
use Rattle.std.proofs.lemmas.Bool.{cases_eq, eq-eqb, or_parts, true≢false}
use Rattle.std.proofs.lemmas.List.{get_or-set_other}
use Rattle.ido_ints.specs.Operators.{is_zero}
use Rattle.c_tree.specs.Exprs as e
use Rattle.c_tree.specs.Flats as f
use Rattle.c_tree.specs.NullReferences.{is_among}
use Rattle.c_tree.specs.Source.{Pending}
use Rattle.c_tree.specs.WellFormed.{IsWellFormed}
use Rattle.c_ranges.proofs.Public.{says_so}
use Rattle.flow_graph.specs.declared.graph.Part.{Part}
use Rattle.flow_graph.specs.Nodes.{Action, Eval, Store, Test, Lock, Unlock, End}
use Rattle.flow_graph.specs.Lowering.{lowered}
use Rattle.flow_graph.specs.Actions.{GraphThread, FlowState, Effect, Makes, Goes, Ends, effect_of, number_in, seen_by, graph_start, graph_step, graph_after}
use Rattle.flow_graph.proofs.Public.{Good, Stepped, after_by, after_is, effects_same, good_after, good_start, graph_threads_after, moved, set_other, stepped}
use Rattle.region_attempts.specs.KnownReferences.{KnownAreUnnull, known_at}
use Rattle.region_attempts.specs.Origins.{Origin}
use Rattle.region_attempts.specs.GraphStates.{flow_kept}
use Rattle.region_attempts.proofs.Public.{kept_good, start_known}
use Rattle.known_references.specs.Laws.{AreAtOwnNodes, KeptAreUnnull, RunsAreUnnull, StepsKeepUnnull}
use Rattle.known_references.proofs.KnownAtNodes.{IsWithin, Leads}
use Rattle.known_references.proofs.OwnNodes.{own_leads}

-- ---- What a node does

-- a local that is known isn't null
abbrev IsUnnull : (known : List ℕ) → (ls : List ℤ) → (local : ℕ) → Type 0
IsUnnull known ls local = is_among known local ≡ true → slice_index_or ls local (pos 0) ≢ pos 0

module _ (known_of : ℕ → List ℕ) (s : FlowState) (w : GraphThread) (local : ℕ) (h : IsUnnull (known_of w.at) w.locals local) where
  abbrev After : Effect → Type 0
  After effect = IsUnnull (known_of (moved w effect).at) (moved w effect).locals local

  after : (made effect : Effect) → Some made ≡ Some effect → After made → After effect
  after made effect is a = subst After (sym (effects_same made effect is)) a

  apart : (own : ℕ) → is_among (own ∷ []) local ≡ false → local ≢ own
  apart own none same = true≢false (sym (eq-eqb own local (sym same)) ∙ (or_parts (own == local) false none).0)

  by_store : (next : ℕ) (effect : Effect) (o : Option Pending) → IsWithin known_of next (known_of w.at) →
      (let step : Option Effect = elim o [ Some store ↦ Some (Makes store next) | None ↦ None ] in step ≡ Some effect) → After effect
  by_store next effect None leads is = absurd (cc)
  by_store next effect (Some store) leads is = after (Makes store next) effect is (λ among. h (leads local among))

  by_test : (condition : e.Placed) (holds fails : ℕ) (effect : Effect) (null : Bool) → is_zero (number_in (seen_by s w) condition.expr) ≡ null →
      Leads known_of (Test condition holds fails) (known_of w.at) → Some (Goes (if null then fails else holds)) ≡ Some effect → After effect
  by_test condition holds fails effect true e leads is = after (Goes fails) effect is (λ among. h (leads.1 local among))
  by_test condition holds fails effect false e leads is = after (Goes holds) effect is (λ among. elim (leads.0 local among) [
    | inl before ↦ h before
    | inr said ↦ says_so w.locals s.variables condition.expr local said (ap not e)
  ])

  known_after : (a : Action) (effect : Effect) → Leads known_of a (known_of w.at) → effect_of a (seen_by s w) ≡ Some effect → After effect
  known_after (Eval (e.ToLocal place own kind) value next) effect leads is = after _ effect is (λ among null.
      let before = leads.0 local among in
      h before (sym (get_or-set_other w.locals own local _ (pos 0) (apart own (leads.1 local before))) ∙ null))
  known_after (Eval (e.ToVariable place variable kind) value next) effect leads is = after _ effect is (λ among. h (leads.0 local among))
  known_after (Eval (e.ToElement place variable kind index) value next) effect leads is = after _ effect is (λ among. h (leads.0 local among))
  known_after (Store variable kind next) effect leads is = by_store next effect w.pending leads is
  known_after (Test condition holds fails) effect leads is =
      by_test condition holds fails effect (is_zero (number_in (seen_by s w) condition.expr)) refl leads is
  known_after (Lock lock next) effect leads is = after _ effect is (λ among. h (leads local among))
  known_after (Unlock lock next) effect leads is = after _ effect is (λ among. h (leads local among))
  known_after End effect leads is = after Ends effect is h

-- ---- A step

module _ (x : f.Flat) (s next : FlowState) (t : ℕ) (own_nodes : AreAtOwnNodes x s) (known : KnownAreUnnull x s) (h : graph_step (lowered x) s t ≡ Some next)
    (text : f.Thread) (own : Part) (local array : ℕ) (refers : slice_get text.refers local ≡ Some (Some array)) where
  abbrev Now : GraphThread → Type 0
  Now w = IsUnnull (known_at text own.first w.at) w.locals local

  st : Stepped (lowered x) s next t
  st = stepped (lowered x) s next t h

  same : (g : GraphThread) → slice_get x.threads t ≡ Some text → slice_get (lowered x).threads t ≡ Some own → slice_get next.graph_threads t ≡ Some g → Now g
  same g its there here =
      let leads = own_leads x t st.graph_thread.at text own st.node its there (own_nodes t st.graph_thread st.found) st.at in
      subst Now (sym (after_is (lowered x) s next t st g here))
      (known_after (known_at text own.first) s st.graph_thread local (known t text own st.graph_thread its there st.found local array refers)
      st.node.action st.effect leads st.does)

  other : (k : ℕ) (g : GraphThread) → k ≢ t → slice_get x.threads k ≡ Some text → slice_get (lowered x).threads k ≡ Some own →
      slice_get next.graph_threads k ≡ Some g → Now g
  other k g differs its there here =
      let to = moved st.graph_thread st.effect in
      let set = graph_threads_after s next t st.graph_thread st.effect st.is in
      let before : slice_get s.graph_threads k ≡ Some g =
      sym (set_other s.graph_threads t k to differs) ∙ (ap (λ (ws : List GraphThread). slice_get ws k) (sym set) ∙ here) in
      known k text own g its there before local array refers

  at_each : (k : ℕ) (g : GraphThread) → slice_get x.threads k ≡ Some text → slice_get (lowered x).threads k ≡ Some own →
      slice_get next.graph_threads k ≡ Some g → Now g
  at_each k g its there here = ⊎_elim
      (λ is. same g (ap (slice_get x.threads) (sym is) ∙ its) (ap (slice_get (lowered x).threads) (sym is) ∙ there)
      (ap (slice_get next.graph_threads) (sym is) ∙ here))
      (λ differs. other k g differs its there here)
      (cases_eq k t)

pub steps_keep_unnull : StepsKeepUnnull
steps_keep_unnull x s next t own_nodes known h k text own g its there here local array refers =
    at_each x s next t own_nodes known h text own local array refers k g its there here

-- ---- Runs

module _ (x : f.Flat) (w : IsWellFormed x) where
  good_next : (s next : FlowState) (t : ℕ) → Good x s → graph_step (lowered x) s t ≡ Some next → Good x next
  good_next s next t good h = subst (Good x) (ap (after_by (lowered x) s []) h) (good_after x (t ∷ []) w s good)

  known_by : (s : FlowState) (t : ℕ) (ts : List ℕ) (o : Option FlowState) → Good x s → KnownAreUnnull x s → graph_step (lowered x) s t ≡ o →
      ((next : FlowState) → Good x next → KnownAreUnnull x next → KnownAreUnnull x (graph_after (lowered x) next ts)) →
      KnownAreUnnull x (after_by (lowered x) s ts o)
  known_by s t ts None good known h more = known
  known_by s t ts (Some next) good known h more = more next (good_next s next t good h) (steps_keep_unnull x s next t good.own known h)

  run_unnull : (schedule : List ℕ) (s : FlowState) → Good x s → KnownAreUnnull x s → KnownAreUnnull x (graph_after (lowered x) s schedule)
  run_unnull [] s good known = known
  run_unnull (t ∷ ts) s good known = known_by s t ts (graph_step (lowered x) s t) good known refl (run_unnull ts)

pub runs_are_unnull : RunsAreUnnull
runs_are_unnull x schedule w = run_unnull x w schedule (graph_start (lowered x) x) (good_start x w) (start_known x)

-- where an execution began anywhere
pub kept_unnull : (x : f.Flat) (w : IsWellFormed x) (o : Origin x) (schedule : List ℕ) → KnownAreUnnull x (flow_kept x o schedule)
kept_unnull x w o schedule = run_unnull x w schedule o.flow (kept_good x w o []) o.known

pub kept_are_unnull : KeptAreUnnull
kept_are_unnull x o schedule w = kept_unnull x w o schedule
