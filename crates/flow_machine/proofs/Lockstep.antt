-- The answers of the graph's run, in lockstep with the source's.
use Rattle.std.proofs.Common.{◌≡◌, inl, inr, refl, ℕ, List, sym, ◌∙◌, ap, subst, arith, true, false, Option, Some, None}
use Rattle.std.specs.Prelude.{slice_get, is_some, ℤ}
use Rattle.std.proofs.lemmas.Option.{slice_get_within, slice_get_past}
use Rattle.c_tree.specs.Flats as f
use Rattle.c_tree.specs.Source as m
use Rattle.c_tree.specs.Source.{Pending}
use Rattle.c_tree.specs.WellFormed.{IsWellFormed}
use Rattle.flow_graph.specs.Nodes.{Action, Eval, Store, Test, Lock, Unlock, End, Node}
use Rattle.flow_graph.specs.Lowering.{lowered}
use Rattle.flow_graph.specs.Actions.{FlowState, graph_step}
use Rattle.flow_graph.specs.Lockstep.{Standing, free, threads_standings, Matches, StepsMatch}
use Rattle.flow_graph.proofs.Public.{ActionLeads, chooses, repeats, node_at, get_cases, found_in, no_more, lowered_nodes, steps_lockstep, runs_lockstep}
use Rattle.source_machine.specs.declared.answers.Stepped.{Stepped}
use Rattle.source_machine.specs.declared.answers.Stepped.TheVariants.{Waits, Ended}
use Rattle.source_machine.specs.Answers as source
use Rattle.source_machine.specs.Mutexes.{first_lock, lock_ahead}
use Rattle.source_machine.specs.Runs.{stepped_of}
use Rattle.flow_machine.specs.Answers.{taken_by, stopped, answer_at, answer_of, flow_stepped}
use Rattle.flow_machine.specs.Lockstep.{KeepsStep}

stopped_is : (o : Option ℕ) → stopped o ≡ (elim o [ Some lock ↦ Waits lock | None ↦ Ended ])
stopped_is None = refl
stopped_is (Some lock) = refl

abbrev ahead_of : (locals : List ℤ) → Option Pending → List f.Statement → Option ℕ
ahead_of ls p left = elim p [
  | Some store ↦ None
  | None ↦ first_lock ls left
]

not_owing : (left rest : List f.Statement) → (let s : Standing = record { left = left; owes = true } in s ≡ free rest) → ⊥
not_owing left rest h = let b : true ≡ false = ap (λ (s : Standing). s.owes) h in cc

left_is : (ls : List ℤ) (left rest : List f.Statement) → free left ≡ free rest → first_lock ls left ≡ first_lock ls rest
left_is ls left rest h = ap (λ (s : Standing). first_lock ls s.left) h

-- a node takes the lock that the first statement takes
ahead : (ls : List ℤ) (all : List Standing) (a : Action) (p : Option Pending) (left : List f.Statement) →
    ActionLeads all a (record { left = left; owes = is_some p }) →
    taken_by ls a ≡ ahead_of ls p left
ahead ls all (Eval target value next) (Some p) left d = refl
ahead ls all (Eval target value next) None left d = sym (left_is ls left _ d.is)
ahead ls all (Store variable kind next) (Some p) left d = refl
ahead ls all (Store variable kind next) None left d = let b : false ≡ true = ap (λ (s : Standing). s.owes) d.is in cc
ahead ls all (Test condition holds fails) (Some p) left d = refl
ahead ls all (Test condition holds fails) None left d = elim d [
  | chooses place body arms otherwise rest is h k ↦ sym (left_is ls left _ is)
  | repeats place body rest is h k ↦ sym (left_is ls left _ is)
]
ahead ls all (Lock lock next) (Some p) left d = absurd (not_owing left _ d.is)
ahead ls all (Lock lock next) None left d = sym (left_is ls left _ d.is)
ahead ls all (Unlock lock next) (Some p) left d = refl
ahead ls all (Unlock lock next) None left d = sym (left_is ls left _ d.is)
ahead ls all End (Some p) left d = refl
ahead ls all End None left d = sym (left_is ls left _ d)

lockstep : (x : f.Flat) (ls : List ℤ) (o : Option FlowState) (p : Option m.State) (node : Node) (thread : m.Thread) → StepsMatch x o p →
    taken_by ls node.action ≡ lock_ahead thread →
    answer_at ls (Some node) o ≡ source.answer_of thread p
lockstep x ls None None node thread h e = ap stopped e ∙ stopped_is (lock_ahead thread)
lockstep x ls None (Some after) node thread h e = absurd h
lockstep x ls (Some next) None node thread h e = absurd h
lockstep x ls (Some next) (Some after) node thread h e = refl

abbrev source_answer : Option m.Thread → Option m.State → Stepped
source_answer o p = elim o [
  | Some thread ↦ source.answer_of thread p
  | None ↦ Ended
]

pub answers_agree : (x : f.Flat) (flow : FlowState) (source : m.State) (thread : ℕ) → IsWellFormed x → Matches x flow source →
    flow_stepped (lowered x) flow thread ≡ stepped_of source thread
answers_agree x flow s t w h = elim (get_cases flow.graph_threads t) [
  | inl none ↦
      let missing = slice_get_past s.threads t (omega (arith, h.count, no_more flow.graph_threads t none)) in
      ap (λ o. answer_of (lowered x) o (graph_step (lowered x) flow t)) none ∙ sym (ap (λ o. source_answer o (m.source_step s t)) missing)
  | inr found ↦
      let graph_thread = found.0 in
      let there = found_in s.threads t (omega (arith, h.count, slice_get_within flow.graph_threads t graph_thread found.1)) in
      let match = h.each t graph_thread there.0 found.1 there.1 in
      let node = node_at x graph_thread.at (record { left = there.0.left; owes = is_some there.0.pending }) w.threads match.stands in
      let here : slice_get (lowered x).nodes graph_thread.at ≡ Some node.0 = ap (λ (ns : List Node). slice_get ns graph_thread.at) (lowered_nodes x) ∙ node.1 in
      ap (λ o. answer_of (lowered x) o (graph_step (lowered x) flow t)) found.1
      ∙ (ap (λ n. answer_at graph_thread.locals n (graph_step (lowered x) flow t)) here
      ∙ (lockstep x graph_thread.locals (graph_step (lowered x) flow t) (m.source_step s t) node.0 there.0 (steps_lockstep x flow s t w h)
      (subst (λ (ls : List ℤ). taken_by ls node.0.action ≡ lock_ahead there.0) (sym match.locals)
      (ahead there.0.locals (threads_standings x.threads) node.0.action there.0.pending there.0.left node.2))
      ∙ sym (ap (λ o. source_answer o (m.source_step s t)) there.1)))
]

pub keeps_step : (x : f.Flat) (schedule : List ℕ) → IsWellFormed x → KeepsStep x schedule
keeps_step x schedule w =
    let r = runs_lockstep x schedule w in
    record { answered = λ thread. answers_agree x _ _ thread w r.states; variables = r.states.variables; holders = r.states.holders; sections = r.sections }
