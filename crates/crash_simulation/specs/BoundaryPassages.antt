-- How many boundaries the steps of a thread pass: one by each lock and each unlock, and one at each node before which a boundary stands by choice.
use Rattle.std.specs.Prelude.{ℕ, ◌+◌, List, [], ◌∷◌, slice_get, slice_index_or, Option, Some, None, Bool, true, false, ◌==◌, if◌then◌else◌, ℤ}
use Rattle.flow_graph.specs.Nodes.{Action, Eval, Store, Test, Lock, Unlock, End, Node, Graph}
use Rattle.c_tree.specs.Flats as f
use Rattle.flow_graph.specs.Lowering.{lowered}
use Rattle.flow_graph.specs.Actions.{FlowState, graph_start, graph_step}
use Rattle.flow_graph.specs.IdempotentCuts.{Boundaries}
use Rattle.region_attempts.specs.GraphStates.{node_of}

-- whether a step at a node passes one, by what the node does, and by whether a boundary stands before it
abbrev pub passes_boundary : Action → (stands : Bool) → Bool
passes_boundary (Lock lock next) stands = true
passes_boundary (Unlock lock next) stands = true
passes_boundary (Eval target value next) stands = stands
passes_boundary (Store variable kind next) stands = stands
passes_boundary (Test condition holds fails) stands = stands
passes_boundary End stands = stands

abbrev pub passages_by : (stands : Bool) → Option Node → ℕ
passages_by stands None = 0
passages_by stands (Some is) = if passes_boundary is.action stands then 1 else 0

-- how many a step at the node passes: one or none
abbrev pub passages_at : Graph → Boundaries → (node : Option ℕ) → ℕ
passages_at g b None = 0
passages_at g b (Some node) = passages_by (slice_index_or b.before node false) (slice_get g.nodes node)

-- how many the thread's own steps of a schedule pass, where that is stepped from the state
abbrev pub passages : Graph → Boundaries → FlowState → (schedule : List ℕ) → (thread : ℕ) → ℕ
passages g b s [] thread = 0
passages g b s (t ∷ ts) thread = elim (graph_step g s t) [
  | None ↦ 0
  | Some next ↦ (if t == thread then passages_at g b (node_of s thread) else 0) + passages g b next ts thread
]

-- ---- Where a life begins

-- each thread at its first node, and all locks free, with these variables
abbrev pub graph_anew : f.Flat → (variables : List (List ℤ)) → FlowState
graph_anew x variables = record (graph_start (lowered x) x) { variables = variables }
