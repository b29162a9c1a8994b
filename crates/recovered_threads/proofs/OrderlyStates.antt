-- The states that a plan's graph reaches are orderly.
use Rattle.std.proofs.Common.{◌≡◌, ◌⊎◌, inl, inr, ℕ, zero, suc, List, [], ◌∷◌, set, replicate, length, refl, ap, arith, sym, ◌∙◌, subst, Bool, true, false}
use Rattle.std.proofs.Common.{Option, Some, None, is_none}
use Rattle.std.specs.Prelude.{slice_get, All, ◌+◌, if◌then◌else◌}
use Rattle.std.proofs.lemmas.Option.{none-some, same_Some, slice_get_within, get_or_from_slice_get}
use Rattle.std.proofs.lemmas.List.{length-set, length-map, length-replicate}
use Rattle.ido_base.specs.Locks.{held_from}
use Rattle.c_tree.specs.Flats as f
use Rattle.c_tree.specs.Source as m
use Rattle.c_tree.specs.LockDiscipline.{IsDisciplined}
use Rattle.source_machine.proofs.Public.{start_keeps, step_keeps}
use Rattle.flow_graph.specs.Nodes.{Graph}
use Rattle.flow_graph.specs.Actions as g
use Rattle.flow_graph.specs.Actions.{GraphThread, FlowState, Effect, Sets, Owes, Makes, Goes, Takes, Gives, Ends, graph_start, graph_step}
use Rattle.flow_graph.specs.Lowering.{lowered}
use Rattle.flow_graph.specs.Lockstep.{Matches, StepsMatch}
use Rattle.flow_graph.proofs.Public.{found_in, begins_lockstep, steps_lockstep, Stepped, stepped, matched}
use Rattle.thread_code.specs.Plans.{Plan, IsPlan}
use Rattle.recovered_threads.specs.RecordDescriptions.{between}
use Rattle.recovered_threads.specs.Laws.{StartsOrderly, StepsOrderly, StartsTold}
use Rattle.recovered_threads.proofs.ChangedWorlds.{same_or_other}
use Rattle.machine_model.proofs.Public.{get-set_same, get-set_other}

-- ---- The start

all_free : (count lock n : ℕ) → slice_get (replicate count None) lock ≡ Some (Some n) → ⊥
all_free zero lock n e = none-some (Some n) e
all_free (suc count) zero n e = none-some n (same_Some None (Some n) e)
all_free (suc count) (suc lock) n e = all_free count lock n e

none_holds : (at count n : ℕ) → is_none (held_from at (replicate count None) n) ≡ true
none_holds at zero n = refl
none_holds at (suc count) n = none_holds (at + 1) count n

disciplined : (p : Plan) → IsPlan p → All (IsDisciplined p.flat) p.flat.threads
disciplined p plan k d below =
    let found = found_in p.flat.threads k below in
    let sets = found_in p.held k (omega (arith, below, plan.held.each_thread)) in
    subst (λ (t : f.Thread). IsDisciplined p.flat t) (sym (get_or_from_slice_get p.flat.threads k found.0 d found.1))
    (plan.held.sets k found.0 sets.0 found.1 sets.1).disciplined

pub starts_orderly : StartsOrderly
starts_orderly p plan = record {
  source = m.start p.flat;
  matches = subst (λ (graph : Graph). Matches p.flat (graph_start graph p.flat) (m.start p.flat)) (sym plan.lowered) (begins_lockstep p.flat plan.formed);
  keeps = start_keeps p.flat (disciplined p plan);
  count = length-map p.graph.threads g.graph_thread_start;
  locks = length-replicate (length p.flat.mutexes) None;
  holders = λ lock n there. absurd (all_free (length p.flat.mutexes) lock n there);
}

pub starts_told : StartsTold
starts_told p codes n below = between (none_holds 0 (length p.flat.mutexes) (codes.each n below).thread.number) refl

-- ---- Steps

-- as many graph threads and mutexes, and none is held by anybody new but the thread
record StepsOn (thread : ℕ) (s next : FlowState) : Type 0 where
  graph_threads : length next.graph_threads ≡ length s.graph_threads
  locks : length next.holders ≡ length s.holders
  holders : (lock n : ℕ) → slice_get next.holders lock ≡ Some (Some n) → (slice_get s.holders lock ≡ Some (Some n)) ⊎ (n ≡ thread)

module _ (s : FlowState) (t : ℕ) (graph_thread : GraphThread) where
  -- with the graph thread elsewhere
  with_one : (v : FlowState) (new : GraphThread) → v.graph_threads ≡ s.graph_threads → v.holders ≡ s.holders → StepsOn t s (g.with_graph_thread v t new)
  with_one v new same held = record {
    graph_threads = length-set v.graph_threads t new ∙ ap (λ (ws : List GraphThread). length ws) same;
    locks = ap (λ (os : List (Option ℕ)). length os) held;
    holders = λ lock n there. inl (sym (ap (λ (os : List (Option ℕ)). slice_get os lock) held) ∙ there);
  }

  -- with the graph thread elsewhere, and the mutex held or free
  with_lock : (mutex : ℕ) (old : Option ℕ) (o : Option ℕ) (new : GraphThread) → slice_get s.holders mutex ≡ Some old → ((n : ℕ) → o ≡ Some n → n ≡ t) →
      StepsOn t s (g.with_graph_thread (g.with_holder s mutex o) t new)
  with_lock mutex old o new there own = record {
    graph_threads = length-set s.graph_threads t new;
    locks = length-set s.holders mutex o;
    holders = λ lock n held. elim (same_or_other lock mutex) [
      | inl same ↦ inr (own n (same_Some o (Some n) (sym (get-set_same s.holders mutex o old there)
          ∙ (ap (slice_get (set s.holders mutex o)) (sym same) ∙ held))))
      | inr other ↦ inl (sym (get-set_other s.holders mutex lock o other) ∙ held)
    ];
  }

  goes_to : (v next : FlowState) → StepsOn t s v → Some v ≡ Some next → StepsOn t s next
  goes_to v next goes e = subst (λ (z : FlowState). StepsOn t s z) (same_Some v next e) goes

  taken : (mutex at : ℕ) (next : FlowState) (o : Option (Option ℕ)) → slice_get s.holders mutex ≡ o →
      elim o [
        | Some None ↦ Some (g.with_graph_thread (g.with_holder s mutex (Some t)) t (record graph_thread { at = at }))
        | _ ↦ None
      ] ≡ Some next → StepsOn t s next
  taken mutex at next None there e = absurd (none-some next e)
  taken mutex at next (Some (Some holder)) there e = absurd (none-some next e)
  taken mutex at next (Some None) there e =
      goes_to (g.with_graph_thread (g.with_holder s mutex (Some t)) t (record graph_thread { at = at })) next
      (with_lock mutex None (Some t) (record graph_thread { at = at }) there (λ n is. sym (same_Some t n is))) e

  given : (mutex at : ℕ) (o : Option (Option ℕ)) → slice_get s.holders mutex ≡ o →
      StepsOn t s (g.with_graph_thread (g.with_holder s mutex None) t (record graph_thread { at = at }))
  given mutex at (Some old) there = with_lock mutex old None (record graph_thread { at = at }) there (λ n is. absurd (none-some n is))
  given mutex at None there = record {
    graph_threads = length-set s.graph_threads t (record graph_thread { at = at });
    locks = length-set s.holders mutex None;
    holders = λ lock n held. elim (same_or_other lock mutex) [
      | inl same ↦ absurd (past mutex None there n (ap (slice_get (set s.holders mutex None)) (sym same) ∙ held))
      | inr other ↦ inl (sym (get-set_other s.holders mutex lock None other) ∙ held)
    ];
  }
    where
      past : (mutex : ℕ) (o : Option ℕ) → slice_get s.holders mutex ≡ None → (n : ℕ) → slice_get (set s.holders mutex o) mutex ≡ Some (Some n) → ⊥
      past mutex o none n held = there_in s.holders mutex none held
        where
          there_in : (os : List (Option ℕ)) (i : ℕ) → slice_get os i ≡ None → slice_get (set os i o) i ≡ Some (Some n) → ⊥
          there_in [] i none held = none-some (Some n) held
          there_in (x ∷ os) zero none held = none-some x (sym none)
          there_in (x ∷ os) (suc i) none held = there_in os i none held

  ended : (b : Bool) (next : FlowState) → (if b then None else Some (g.with_graph_thread s t (record graph_thread { ended = true }))) ≡ Some next →
      StepsOn t s next
  ended true next e = absurd (none-some next e)
  ended false next e =
      goes_to (g.with_graph_thread s t (record graph_thread { ended = true })) next (with_one s (record graph_thread { ended = true }) refl refl) e

  by_effect : (effect : Effect) (next : FlowState) → g.done s t graph_thread effect ≡ Some next → StepsOn t s next
  by_effect (Sets local number at) next e = goes_to _ next (with_one s _ refl refl) e
  by_effect (Owes store at) next e = goes_to _ next (with_one s _ refl refl) e
  by_effect (Makes store at) next e = goes_to _ next (with_one (g.stored s store) _ refl refl) e
  by_effect (Goes at) next e = goes_to _ next (with_one s _ refl refl) e
  by_effect (Takes mutex at) next e = taken mutex at next (slice_get s.holders mutex) refl e
  by_effect (Gives mutex at) next e = goes_to _ next (given mutex at (slice_get s.holders mutex) refl) e
  by_effect Ends next e = ended graph_thread.ended next e

pub steps_orderly : StepsOrderly
steps_orderly p s next thread plan orderly step =
    let by : Stepped p.graph s next thread = stepped p.graph s next thread step in
    let goes : StepsOn thread s next = by_effect s thread by.graph_thread by.effect next by.is in
    let same : graph_step (lowered p.flat) s thread ≡ Some next = ap (λ (graph : Graph). graph_step graph s thread) (sym plan.lowered) ∙ step in
    let after = matched p.flat next (m.source_step orderly.source thread)
    (subst (λ (o : Option FlowState). StepsMatch p.flat o (m.source_step orderly.source thread)) same
    (steps_lockstep p.flat s orderly.source thread plan.formed orderly.matches)) in
    record {
      source = after.0;
      matches = after.2;
      keeps = step_keeps p.flat orderly.source after.0 thread orderly.keeps after.1;
      count = goes.graph_threads ∙ orderly.count;
      locks = goes.locks ∙ orderly.locks;
      holders = λ lock n there. elim (goes.holders lock n there) [
        | inl old ↦ orderly.holders lock n old
        | inr own ↦ (let below = slice_get_within s.graph_threads thread by.graph_thread by.found in omega (arith, own, below, orderly.count))
      ];
    }
