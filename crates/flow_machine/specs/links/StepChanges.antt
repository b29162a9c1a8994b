-- What a step of one thread changes: the thread, the variables and the holders.
use Rattle.std.specs.Prelude.{◌≡◌, ℕ, List, slice_set, Option, Some, None, ℤ}
use Rattle.flow_graph.specs.declared.graph.Graph as graph
use Rattle.flow_graph.specs.Nodes.{Action, Graph, graph_of}
use Rattle.flow_graph.specs.Actions.{GraphThread, FlowState, effect_of, effect_step, seen_by, graph_thread_step, with_graph_thread}
use Rattle.source_machine.specs.declared.answers.Stepped.{Stepped}
use Rattle.flow_machine.specs.Answers.{answer_of}
use Rattle.flow_machine.specs.links.GraphThreads.{graph_thread_of}
use Rattle.flow_machine.specs.declared.graph_thread.GraphThread as code

pub record Hand : Type 0 where
  pub graph_thread : GraphThread
  pub variables : List (List ℤ)
  pub holders : List (Option ℕ)

abbrev pub hand : GraphThread → (variables : List (List ℤ)) → (holders : List (Option ℕ)) → Hand
hand graph_thread variables holders = record { graph_thread = graph_thread; variables = variables; holders = holders }

-- what a thread of the code represents, with variables and holders
abbrev pub hand_of : code.GraphThread → (variables : List (List ℤ)) → (holders : List (Option ℕ)) → Hand
hand_of graph_thread variables holders = hand (graph_thread_of graph_thread) variables holders

-- the state with these threads
abbrev pub state_in : Hand → List GraphThread → FlowState
state_in h graph_threads = record { variables = h.variables; holders = h.holders; graph_threads = graph_threads }

-- the state after a step, or the same where there is none
abbrev pub reached : (step : Option FlowState) → (before : FlowState) → FlowState
reached (Some next) before = next
reached None before = before

pub record IsMade (g : Graph) (number : ℕ) (before after : Hand) (answer : Stepped) (graph_threads : List GraphThread) : Type 0 where
  pub state : reached (graph_thread_step g (state_in before graph_threads) number (Some before.graph_thread))
      (with_graph_thread (state_in before graph_threads) number before.graph_thread) ≡
      state_in after (slice_set graph_threads number after.graph_thread)
  pub answered : answer ≡ answer_of g (Some before.graph_thread) (graph_thread_step g (state_in before graph_threads) number (Some before.graph_thread))

-- the step is made so, whatever the other threads are
abbrev pub StepIsMade : graph.Graph → (number : ℕ) → (before after : Hand) → Stepped → Type 0
StepIsMade g number before after answer = (graph_threads : List GraphThread) → IsMade (graph_of g) number before after answer graph_threads

-- the thread becomes the one that has done the action, which leaves variables and holders
abbrev pub DoesEval : Action → (before after : GraphThread) → (variables : List (List ℤ)) → Type 0
DoesEval action before after variables = (number : ℕ) (holders : List (Option ℕ)) (graph_threads : List GraphThread) →
    let s = state_in (hand before variables holders) graph_threads in
    effect_step s number before (effect_of action (seen_by s before)) ≡ Some (with_graph_thread s number after)
