-- Steps of one thread, by the node that it does.
use Rattle.std.proofs.Common.{◌≡◌, refl, ℕ, zero, suc, List, [], ◌∷◌, map, length, get_or, ◌<◌, sym, ◌∙◌, ap, Bool, true, false, Option, Some, None, slice_set}
use Rattle.std.specs.Prelude.{slice_get, if◌then◌else◌}
use Rattle.std.proofs.lemmas.Option.{slice_get-get_or}
use Rattle.flow_graph.specs.declared.graph.Node as code
use Rattle.c_tree.specs.Exprs.{Placed, LockName, Lvalue, ToLocal, ToVariable, ToElement}
use Rattle.c_tree.specs.Values.{lock_number}
use Rattle.c_tree.specs.Source as m
use Rattle.flow_graph.specs.Nodes.{Action, Eval, Lock, Unlock, End, Node, Graph, node_of}
use Rattle.flow_graph.specs.Actions.{GraphThread, FlowState, effect_of, effect_step, seen_by, node_step, with_graph_thread, with_holder}
use Rattle.source_machine.specs.declared.answers.Stepped.{Stepped}
use Rattle.source_machine.specs.declared.answers.Stepped.TheVariants.{Did, Waits}
use Rattle.flow_machine.specs.Answers.{taken_by, stopped, answer_at}
use Rattle.flow_machine.specs.links.StepChanges.{Hand, state_in, reached, IsMade}

pub found_in_map : {X Y : Type 0} (h : X → Y) (xs : List X) (k : ℕ) (x : X) → slice_get xs k ≡ Some x → slice_get (map h xs) k ≡ Some (h x)
found_in_map h [] k x e = cc
found_in_map h (y ∷ xs) zero x e = let is : y ≡ x = cc in ap (λ z. Some (h z)) is
found_in_map h (y ∷ xs) (suc k) x e = found_in_map h xs k x e

-- the node that was read
pub node_read : (nodes shown : List code.Node) (k : ℕ) (n : code.Node) → shown ≡ nodes → k < length shown → n ≡ get_or shown k n →
    slice_get (map node_of nodes) k ≡ Some (node_of n)
node_read nodes shown k n same within is =
    found_in_map node_of nodes k n (ap (λ (ns : List code.Node). slice_get ns k) (sym same) ∙ (slice_get-get_or shown k n within ∙ ap Some (sym is)))

taken_none : (s : FlowState) (t lock next : ℕ) (graph_thread : GraphThread) (o : Option (Option ℕ)) → (o ≡ Some None → ⊥) →
    (let step : Option FlowState = elim o [
      | Some None ↦ Some (with_graph_thread (with_holder s lock (Some t)) t
          (record graph_thread { at = next }))
      | _ ↦ None
    ] in step ≡ None)
taken_none s t lock next graph_thread None h = refl
taken_none s t lock next graph_thread (Some None) h = absurd (h refl)
taken_none s t lock next graph_thread (Some (Some other)) h = refl

taken_some : (s : FlowState) (t lock next : ℕ) (graph_thread : GraphThread) (o : Option (Option ℕ)) → o ≡ Some None →
    (let step : Option FlowState = elim o [
      | Some None ↦ Some (with_graph_thread (with_holder s lock (Some t)) t
          (record graph_thread { at = next }))
      | _ ↦ None
    ] in step ≡ Some (with_graph_thread (with_holder s lock (Some t)) t (record graph_thread { at = next })))
taken_some s t lock next graph_thread None h = cc
taken_some s t lock next graph_thread (Some None) h = refl
taken_some s t lock next graph_thread (Some (Some other)) h = cc

module _ (g : Graph) (number : ℕ) (before : Hand) (graph_threads : List GraphThread) (n : Node)
    (found : slice_get g.nodes before.graph_thread.at ≡ Some n) where
  abbrev now : FlowState
  now = state_in before graph_threads

  abbrev step_by : Action → Option FlowState
  step_by action = effect_step now number before.graph_thread (effect_of action (seen_by now before.graph_thread))

  made : (after : Hand) (answer : Stepped) (o : Option FlowState) → step_by n.action ≡ o →
      reached o (with_graph_thread now number before.graph_thread) ≡ state_in after (slice_set graph_threads number after.graph_thread) →
      answer ≡ answer_at before.graph_thread.locals (Some n) o →
      IsMade g number before after answer graph_threads
  made after answer o e r a = record {
    state = ap (λ m. reached (node_step now number before.graph_thread m) (with_graph_thread now number before.graph_thread)) found
        ∙ (ap (λ p. reached p (with_graph_thread now number before.graph_thread)) e ∙ r);
    answered = a ∙ sym ((λ i. answer_at before.graph_thread.locals (found i) (node_step now number before.graph_thread (found i)))
        ∙ ap (answer_at before.graph_thread.locals (Some n)) e);
  }

  -- the lock of the name, where the thread's locals have their numbers
  abbrev pub named : LockName → ℕ
  named lock = lock_number before.graph_thread.locals lock

  pub lock_made : (lock : LockName) (next : ℕ) → n.action ≡ Lock lock next → slice_get before.holders (named lock) ≡ Some None →
      IsMade g number before
      (record before { graph_thread = record before.graph_thread { at = next }; holders = slice_set before.holders (named lock) (Some number) })
      Did graph_threads
  lock_made lock next is free = made _ Did _
      (ap step_by is ∙ taken_some now number (named lock) next before.graph_thread (slice_get before.holders (named lock)) free) refl refl

  pub lock_waits : (lock : LockName) (next : ℕ) → n.action ≡ Lock lock next → (slice_get before.holders (named lock) ≡ Some None → ⊥) →
      IsMade g number before before (Waits (named lock)) graph_threads
  lock_waits lock next is held = made before (Waits (named lock)) None
      (ap step_by is ∙ taken_none now number (named lock) next before.graph_thread (slice_get before.holders (named lock)) held) refl
      (sym (ap (λ a. stopped (taken_by before.graph_thread.locals a)) is))

  pub unlock_made : (lock : LockName) (next : ℕ) → n.action ≡ Unlock lock next →
      IsMade g number before (record before { graph_thread = record before.graph_thread { at = next }; holders = slice_set before.holders (named lock) None })
      Did graph_threads
  unlock_made lock next is = made _ Did _ (ap step_by is) refl refl

  abbrev end_by : Bool → Option FlowState
  end_by b = if b then None else Some (with_graph_thread now number (record before.graph_thread { ended = true }))

  pub end_made : n.action ≡ End → before.graph_thread.ended ≡ false → IsMade g number before
      (record before { graph_thread = record before.graph_thread { ended = true } }) Did graph_threads
  end_made is live = made _ Did _ (ap step_by is ∙ ap end_by live) refl refl

-- a value is evaluated for a target: the thread is as the source's is then
pub eval_made : (t : Lvalue) (x : Placed) (next number : ℕ) (h : Hand) (graph_threads : List GraphThread) (thread : m.Thread) →
    thread ≡ m.evaluated (record { variables = h.variables; holders = h.holders; threads = [] })
    (record { left = []; locals = h.graph_thread.locals; pending = h.graph_thread.pending; ended = h.graph_thread.ended }) t x.expr →
    effect_step (state_in h graph_threads) number h.graph_thread (effect_of (Eval t x next) (seen_by (state_in h graph_threads) h.graph_thread)) ≡
    Some (with_graph_thread (state_in h graph_threads) number
    (record { at = next; locals = thread.locals; pending = thread.pending; ended = h.graph_thread.ended }))
eval_made (ToLocal place local kind) x next number h graph_threads thread is =
    ap (λ (e : m.Thread).
    Some (with_graph_thread (state_in h graph_threads) number (record { at = next; locals = e.locals; pending = e.pending; ended = h.graph_thread.ended })))
    (sym is)
eval_made (ToVariable place variable kind) x next number h graph_threads thread is =
    ap (λ (e : m.Thread).
    Some (with_graph_thread (state_in h graph_threads) number (record { at = next; locals = e.locals; pending = e.pending; ended = h.graph_thread.ended })))
    (sym is)
eval_made (ToElement place variable kind index) x next number h graph_threads thread is =
    ap (λ (e : m.Thread).
    Some (with_graph_thread (state_in h graph_threads) number (record { at = next; locals = e.locals; pending = e.pending; ended = h.graph_thread.ended })))
    (sym is)
