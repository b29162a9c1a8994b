-- A step of a whole state, and the state at the start.
use Rattle.std.proofs.Common.{◌≡◌, refl, ℕ, zero, suc, ◌+◌, List, [], ◌∷◌, length, map, replicate}
use Rattle.std.proofs.Common.{sym, ◌∙◌, ap, subst, arith, add-zero, Option, Some, None, slice_set}
use Rattle.std.specs.Prelude.{slice_get}
use Rattle.std.proofs.lemmas.List.{length-map, length-replicate, get_or-replicate}
use Rattle.c_tree.specs.Flats as f
use Rattle.c_tree.specs.Programs.{Variable, mutex_of, variable_of}
use Rattle.c_tree.specs.declared.flat.Flat as flat
use Rattle.c_tree.specs.declared.program.Variable as variable
use Rattle.flow_graph.specs.Nodes.{Graph, graph_of}
use Rattle.flow_graph.specs.Actions as g
use Rattle.flow_graph.specs.Actions.{graph_step, graph_start}
use Rattle.source_machine.specs.Sections.{AreCounted}
use Rattle.source_machine.specs.links.SectionEnds.{ends}
use Rattle.source_machine.specs.declared.answers.Stepped.{Stepped}
use Rattle.source_machine.proofs.Public.{ends_same, counted_as}
use Rattle.flow_machine.specs.Answers.{answer_of}
use Rattle.flow_machine.specs.declared.graph_thread.GraphThread.{GraphThread}
use Rattle.flow_machine.specs.declared.state.FlowState.{FlowState}
use Rattle.flow_machine.specs.links.GraphThreads.{graph_thread_of}
use Rattle.flow_machine.specs.Flows.{state_of, RepresentsFlow, IsAfter}
use Rattle.flow_machine.specs.links.StepChanges.{hand, state_in, reached, IsMade}
use Rattle.flow_machine.proofs.NodeSteps.{found_in_map}

-- ---- Lists

map_set : {X Y : Type 0} (h : X → Y) (xs : List X) (k : ℕ) (x : X) → map h (slice_set xs k x) ≡ slice_set (map h xs) k (h x)
map_set h [] k x = refl
map_set h (y ∷ xs) zero x = refl
map_set h (y ∷ xs) (suc k) x = ap (λ ys. h y ∷ ys) (map_set h xs k x)

set_again : {X : Type 0} (xs : List X) (k : ℕ) (x : X) → slice_get xs k ≡ Some x → slice_set xs k x ≡ xs
set_again [] k x h = refl
set_again (y ∷ xs) zero x h = let is : x ≡ y = cc in ap (λ z. z ∷ xs) is
set_again (y ∷ xs) (suc k) x h = ap (λ zs. y ∷ zs) (set_again xs k x h)

map_map : {X Y Z : Type 0} (g : Y → Z) (h : X → Y) (xs : List X) → map g (map h xs) ≡ map (λ x. g (h x)) xs
map_map g h [] = refl
map_map g h (x ∷ xs) = ap (λ ys. g (h x) ∷ ys) (map_map g h xs)

-- ---- A step

graph_is : (graph : Graph) (s : g.FlowState) (t : ℕ) → graph_step graph s t ≡ g.graph_thread_step graph s t (slice_get s.graph_threads t)
unfolding graph_step
graph_is graph s t = refl

abbrev one_by : g.FlowState → Option g.FlowState → g.FlowState
one_by s o = elim o [
  | None ↦ s
  | Some next ↦ next
]

one_reached : (s : g.FlowState) (o : Option g.FlowState) → one_by s o ≡ reached o s
one_reached s None = refl
one_reached s (Some next) = refl

abbrev ended_by : g.FlowState → (thread : ℕ) → Option g.FlowState → ℕ
ended_by s k o = elim o [
  | None ↦ 0
  | Some next ↦ g.ends_section s next k + 0
]

ended_one : (s : g.FlowState) (k : ℕ) (o : Option g.FlowState) → ended_by s k o ≡ ends s.holders (reached o s).holders k
ended_one s k None = sym (ends_same s.holders s.holders k refl)
ended_one s k (Some next) = add-zero (g.ends_section s next k)

-- the graph thread of that number is replaced by one that has made the step, and the sections that it ends are counted
pub record ReplacesThread (before after : FlowState) (n : ℕ) (answer : Stepped) : Type 0 where
  pub old : GraphThread
  pub new : GraphThread
  pub here : slice_get before.graph_threads.items n ≡ Some old
  pub same : after.graph ≡ before.graph
  pub set : after.graph_threads.items ≡ slice_set before.graph_threads.items n new
  pub makes : (graph_threads : List g.GraphThread) → IsMade (graph_of before.graph.now) n (hand (graph_thread_of old) before.variables before.holders.items)
      (hand (graph_thread_of new) after.variables after.holders.items) answer graph_threads
  pub counts : (ended : ℕ → ℕ) → AreCounted before.sections.items ended →
      AreCounted after.sections.items (λ k. ended k + ends before.holders.items after.holders.items k)

module _ (before after : FlowState) (n : ℕ) (answer : Stepped) (step : ReplacesThread before after n answer) where
  open step use {old as it, new as it', here, same, set, makes, counts}

  abbrev graph : Graph
  graph = graph_of before.graph.now

  abbrev start : g.FlowState
  start = state_of before

  stepping : graph_step graph start n ≡ g.graph_thread_step graph start n (Some (graph_thread_of it))
  stepping = graph_is graph start n ∙ ap (g.graph_thread_step graph start n) (found_in_map graph_thread_of before.graph_threads.items n it here)

  kept : g.with_graph_thread start n (graph_thread_of it) ≡ start
  kept = ap (state_in (hand (graph_thread_of it) before.variables before.holders.items))
      (set_again (map graph_thread_of before.graph_threads.items) n (graph_thread_of it) (found_in_map graph_thread_of before.graph_threads.items n it here))

  arrives : reached (graph_step graph start n) start ≡ state_of after
  arrives =
      let made = makes (map graph_thread_of before.graph_threads.items) in
      (λ i. reached (stepping i) (sym kept i)) ∙ (made.state
      ∙ ap (state_in (hand (graph_thread_of it') after.variables after.holders.items)) (sym (map_set graph_thread_of before.graph_threads.items n it')
      ∙ ap (map graph_thread_of) (sym set)))

  ending : (k : ℕ) → ends before.holders.items after.holders.items k ≡ g.graph_ended graph start (n ∷ []) k
  ending k = sym (ended_one start k (graph_step graph start n) ∙ ap (λ (s : g.FlowState). ends before.holders.items s.holders k) arrives)

  pub after_step : (ended : ℕ → ℕ) → AreCounted before.sections.items ended → IsAfter after graph answer start ended n
  after_step ended counted = record {
    answered = (makes (map graph_thread_of before.graph_threads.items)).answered
        ∙ sym (λ i. answer_of graph (found_in_map graph_thread_of before.graph_threads.items n it here i) (stepping i));
    stands = record {
      graph_is = ap (λ r. graph_of r.now) (sym same);
      state_is = one_reached start (graph_step graph start n) ∙ arrives;
      sections = counted_as after.sections.items ended (ends before.holders.items after.holders.items) (λ k. g.graph_ended graph start
          (n ∷ []) k) ending (counts ended counted);
    };
  }

  pub after_any : (h : Graph) (s : g.FlowState) (ended : ℕ → ℕ) → RepresentsFlow before h s ended → IsAfter after h answer s ended n
  after_any h s ended at =
      let P : Graph → Type 0 = λ z. IsAfter after z answer s ended n in
      let Q : g.FlowState → Type 0 = λ z. IsAfter after (graph_of before.graph.now) answer z ended n in
      subst P (sym at.graph_is) (subst Q (sym at.state_is) (after_step ended at.sections))

-- ---- The start

pub starts : (state : FlowState) (x : flat.Flat) → state.variables ≡ map (λ (v : variable.Variable). (variable_of v).initial) x.variables.items →
    state.holders.items ≡ replicate (length x.mutexes.items) None →
    map graph_thread_of state.graph_threads.items ≡ map g.graph_thread_start state.graph.now.threads.items →
    state.sections.items ≡ replicate (length state.graph.now.threads.items) 0 →
    RepresentsFlow state (graph_of state.graph.now) (graph_start (graph_of state.graph.now) (f.flat_of x)) (λ _. 0)
starts state x variables holders graph_threads sections =
    let zeros : AreCounted (replicate (length state.graph.now.threads.items) 0) (λ _. 0) =
    λ k l. get_or-replicate (length state.graph.now.threads.items) k 0 0 (omega (arith, length-replicate {A = ℕ} (length state.graph.now.threads.items) 0)) in
    let P : List ℕ → Type 0 = λ ns. AreCounted ns (λ _. 0) in
    let vs = map_map (λ (v : Variable). v.initial) variable_of x.variables.items ∙ sym variables in
    let hs = ap (λ n. replicate n None) (length-map x.mutexes.items mutex_of) ∙ sym holders in
    record {
      graph_is = refl;
      state_is = λ i. record { variables = vs i; holders = hs i; graph_threads = sym graph_threads i };
      sections = subst P (sym sections) zeros;
    }
