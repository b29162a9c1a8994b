-- No reference is null that is known not to be where a thread stands.
use Rattle.std.specs.Prelude.{◌≡◌, ℕ, List, slice_get, Some}
use Rattle.c_tree.specs.Flats as f
use Rattle.c_tree.specs.WellFormed.{IsWellFormed}
use Rattle.flow_graph.specs.Lowering.{lowered}
use Rattle.flow_graph.specs.Actions.{GraphThread, FlowState, graph_start, graph_step, graph_after}
use Rattle.flow_graph.specs.Lockstep.{IsOwnNode}
use Rattle.region_attempts.specs.KnownReferences.{KnownAreUnnull}
use Rattle.region_attempts.specs.Origins.{Origin}
use Rattle.region_attempts.specs.GraphStates.{flow_kept}

-- each thread stands at a node of its own
abbrev pub AreAtOwnNodes : f.Flat → FlowState → Type 0
AreAtOwnNodes x flow = (thread : ℕ) (graph_thread : GraphThread) → slice_get flow.graph_threads thread ≡ Some graph_thread → IsOwnNode x thread graph_thread.at

-- each step of the graph keeps it, whatever state it is made in
abbrev pub StepsKeepUnnull : Type 0
StepsKeepUnnull = (x : f.Flat) (flow next : FlowState) (thread : ℕ) → AreAtOwnNodes x flow → KnownAreUnnull x flow →
    graph_step (lowered x) flow thread ≡ Some next → KnownAreUnnull x next

-- in every run each reference that a block knows not to be null is not null
abbrev pub RunsAreUnnull : Type 0
RunsAreUnnull = (x : f.Flat) (schedule : List ℕ) → IsWellFormed x → KnownAreUnnull x (graph_after (lowered x) (graph_start (lowered x) x) schedule)

-- in what an execution has kept, wherever it began, each such reference is not null
abbrev pub KeptAreUnnull : Type 0
KeptAreUnnull = (x : f.Flat) (o : Origin x) (schedule : List ℕ) → IsWellFormed x → KnownAreUnnull x (flow_kept x o schedule)
