-- A thread that has ended stands at the end of its graph.
use Rattle.std.proofs.Common.{◌≡◌, ◌⊎◌, inl, inr, refl, ℕ, zero, suc, List, [], ◌∷◌, map, true, false, slice_get, Option, Some, None, ap, sym, subst, ◌∙◌}
use Rattle.std.specs.Prelude.{slice_set}
use Rattle.std.proofs.lemmas.Bool.{true≢false}
use Rattle.std.proofs.lemmas.Option.{none-some, same_Some}
use Rattle.c_tree.specs.Exprs as e
use Rattle.c_tree.specs.Source.{Pending}
use Rattle.flow_graph.specs.declared.graph.Part.{Part}
use Rattle.flow_graph.specs.Nodes.{Action, Eval, Store, Test, Lock, Unlock, End, Node, Graph}
use Rattle.flow_graph.specs.Actions.{Seen, GraphThread, FlowState, Effect, Sets, Owes, Makes, Goes, Takes, Gives, Ends, effect_of, graph_step, graph_after}
use Rattle.flow_graph.specs.Actions.{graph_thread_start, seen_by}
use Rattle.flow_graph.proofs.Public.{Stepped, graph_threads_after, moved, same_or_other, set_other, set_same, stepped}

-- ---- What ends a thread

ends_none : (next : ℕ) (o : Option Pending) →
    (let effect : Option Effect = elim o [ Some store ↦ Some (Makes store next) | None ↦ None ] in effect ≡ Some Ends) → ⊥
ends_none next None h = cc
ends_none next (Some store) h = cc

ends_at : (a : Action) (seen : Seen) → effect_of a seen ≡ Some Ends → a ≡ End
ends_at (Eval (e.ToLocal place local kind) value next) seen h = cc
ends_at (Eval (e.ToVariable place variable kind) value next) seen h = cc
ends_at (Eval (e.ToElement place variable kind index) value next) seen h = cc
ends_at (Store variable kind next) seen h = absurd (ends_none next seen.pending h)
ends_at (Test condition holds fails) seen h = cc
ends_at (Lock lock next) seen h = cc
ends_at (Unlock lock next) seen h = cc
ends_at End seen h = refl

-- by its effect, or before it
over : (graph_thread : GraphThread) (effect : Effect) → (moved graph_thread effect).ended ≡ true → (effect ≡ Ends) ⊎ (graph_thread.ended ≡ true)
over graph_thread (Sets local number next) h = inr h
over graph_thread (Owes store next) h = inr h
over graph_thread (Makes store next) h = inr h
over graph_thread (Goes next) h = inr h
over graph_thread (Takes mutex next) h = inr h
over graph_thread (Gives mutex next) h = inr h
over graph_thread Ends h = inl refl

-- ---- States

pub record IsEnd (g : Graph) (node : ℕ) : Type 0 where
  pub is : Node
  pub at : slice_get g.nodes node ≡ Some is
  pub ends : is.action ≡ End

-- each thread that has ended stands at an end
abbrev pub EndAtEnds : Graph → FlowState → Type 0
EndAtEnds g s = (t : ℕ) (graph_thread : GraphThread) → slice_get s.graph_threads t ≡ Some graph_thread → graph_thread.ended ≡ true → IsEnd g graph_thread.at

module _ (g : Graph) where
  module _ (s next : FlowState) (u : ℕ) (step : graph_step g s u ≡ Some next) (before : EndAtEnds g s) where
    abbrev st : Stepped g s next u
    st = stepped g s next u step

    threads : next.graph_threads ≡ slice_set s.graph_threads u (moved st.graph_thread st.effect)
    threads = graph_threads_after s next u st.graph_thread st.effect st.is

    -- where the thread has ended already its node ends
    ends_by : (moved st.graph_thread st.effect).ended ≡ true → st.effect ≡ Ends
    ends_by h = elim (over st.graph_thread st.effect h) [
      | inl ends ↦ ends
      | inr was ↦
          let e = before u st.graph_thread st.found was in
          let action : st.node.action ≡ End = ap (λ (n : Node). n.action) (same_Some st.node e.is (sym st.at ∙ e.at)) ∙ e.ends in
          same_Some st.effect Ends (sym st.does ∙ ap (λ (a : Action). effect_of a (seen_by s st.graph_thread)) action)
    ]

    -- it stood at an end then
    pub ended_there : (moved st.graph_thread st.effect).ended ≡ true → st.node.action ≡ End
    ended_there h = ends_at st.node.action (seen_by s st.graph_thread) (st.does ∙ ap (λ (z : Effect). Some z) (ends_by h))

    own_end : (moved st.graph_thread st.effect).ended ≡ true → IsEnd g (moved st.graph_thread st.effect).at
    own_end h =
        let ends = ends_by h in
        subst (λ (z : Effect). IsEnd g (moved st.graph_thread z).at) (sym ends) (record {
          is = st.node;
          at = st.at;
          ends = ended_there h;
        })

    step_ends : EndAtEnds g next
    step_ends t graph_thread there h = elim (same_or_other t u) [
      | inl same ↦
          let is : graph_thread ≡ moved st.graph_thread st.effect =
          same_Some graph_thread (moved st.graph_thread st.effect) (sym there ∙ (ap (slice_get next.graph_threads) same
          ∙ (ap (λ (ts : List GraphThread). slice_get ts u) threads
          ∙ set_same s.graph_threads u (moved st.graph_thread st.effect) st.graph_thread st.found))) in
          subst (λ (z : GraphThread). IsEnd g z.at) (sym is) (own_end (ap (λ (z : GraphThread). z.ended) (sym is) ∙ h))
      | inr other ↦
          before t graph_thread
          (sym (ap (λ (ts : List GraphThread). slice_get ts t) threads ∙ set_other s.graph_threads u t (moved st.graph_thread st.effect) other) ∙ there) h
    ]

  ends_then : (u : ℕ) (us : List ℕ) (s : FlowState) (o : Option FlowState) → graph_step g s u ≡ o → EndAtEnds g s →
      ((next : FlowState) → EndAtEnds g next → EndAtEnds g (graph_after g next us)) →
      (let after : FlowState = elim o [ None ↦ s | Some next ↦ graph_after g next us ] in EndAtEnds g after)
  ends_then u us s None e before later = before
  ends_then u us s (Some next) e before later = later next (step_ends s next u e before)

  pub run_ends : (schedule : List ℕ) (s : FlowState) → EndAtEnds g s → EndAtEnds g (graph_after g s schedule)
  run_ends [] s before = before
  run_ends (u ∷ us) s before = ends_then u us s (graph_step g s u) refl before (run_ends us)

  -- no thread has ended at the start
  start_ends : (parts : List Part) (t : ℕ) (graph_thread : GraphThread) → slice_get (map graph_thread_start parts) t ≡ Some graph_thread →
      graph_thread.ended ≡ false
  start_ends [] t graph_thread h = absurd (none-some graph_thread h)
  start_ends (part ∷ parts) zero graph_thread h = ap (λ (z : GraphThread). z.ended) (sym (same_Some (graph_thread_start part) graph_thread h))
  start_ends (part ∷ parts) (suc t) graph_thread h = start_ends parts t graph_thread h

  pub starts_end : (s : FlowState) (parts : List Part) → s.graph_threads ≡ map graph_thread_start parts → EndAtEnds g s
  starts_end s parts whole t graph_thread there ended =
      absurd (true≢false (sym ended ∙ start_ends parts t graph_thread (ap (λ (ts : List GraphThread). slice_get ts t) (sym whole) ∙ there)))
