-- What a state in the code represents, and what steps of it do.
use Rattle.std.specs.Prelude.{◌≡◌, ℕ, ◌+◌, [], ◌∷◌, length, map}
use Rattle.flow_graph.specs.Nodes.{Graph, graph_of}
use Rattle.flow_graph.specs.Actions as g
use Rattle.source_machine.specs.Sections.{AreCounted}
use Rattle.source_machine.specs.declared.answers.Stepped.{Stepped}
use Rattle.flow_machine.specs.declared.state.FlowState.{FlowState}
use Rattle.flow_machine.specs.Answers.{flow_stepped}
use Rattle.flow_machine.specs.links.GraphThreads.{graph_thread_of}

abbrev pub threads_in : FlowState → ℕ
threads_in state = length state.graph_threads.items

abbrev pub state_of : FlowState → g.FlowState
state_of state = record { variables = state.variables; holders = state.holders.items; graph_threads = map graph_thread_of state.graph_threads.items }

-- the state in the code is that state of that graph, and of each thread so many sections have ended
pub record RepresentsFlow (state : FlowState) (graph : Graph) (s : g.FlowState) (ended : ℕ → ℕ) : Type 0 where
  pub graph_is : graph ≡ graph_of state.graph.now
  pub state_is : s ≡ state_of state
  pub sections : AreCounted state.sections.items ended

-- the answer is that, and the state that of the step where there is one, else the same
pub record IsAfter (after : FlowState) (graph : Graph) (answer : Stepped) (s : g.FlowState) (ended : ℕ → ℕ) (thread : ℕ) : Type 0 where
  pub answered : answer ≡ flow_stepped graph s thread
  pub stands : RepresentsFlow after graph (g.graph_after graph s (thread ∷ [])) (λ k. ended k + g.graph_ended graph s (thread ∷ []) k)
