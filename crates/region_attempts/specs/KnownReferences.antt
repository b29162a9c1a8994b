-- References that are known not to be null where a thread stands.
use Rattle.std.specs.Prelude.{◌≡◌, ◌≢◌, ℕ, ◌-◌, List, [], slice_get, slice_index_or, Option, Some, true, ℤ, pos}
use Rattle.c_tree.specs.Flats as f
use Rattle.c_tree.specs.NullReferences.{is_among}
use Rattle.c_ranges.specs.KnownAtSteps.{thread_knowns}
use Rattle.flow_graph.specs.declared.graph.Part.{Part}
use Rattle.flow_graph.specs.Lowering.{lowered}
use Rattle.flow_graph.specs.Actions.{GraphThread, FlowState}

-- the locals that are known before the step of a node of the thread, whose first node has that number
abbrev pub known_at : f.Thread → (first node : ℕ) → List ℕ
known_at text first node = slice_index_or (thread_knowns text) (node - first) []

-- none of them is null that refers
abbrev pub AreUnnull : (refers : List (Option ℕ)) → (known : List ℕ) → (locals : List ℤ) → Type 0
AreUnnull refers known ls = (local array : ℕ) → slice_get refers local ≡ Some (Some array) → is_among known local ≡ true →
    slice_index_or ls local (pos 0) ≢ pos 0

-- each thread at its node
abbrev pub KnownAreUnnull : f.Flat → FlowState → Type 0
KnownAreUnnull x flow = (thread : ℕ) (text : f.Thread) (part : Part) (graph_thread : GraphThread) → slice_get x.threads thread ≡ Some text →
    slice_get (lowered x).threads thread ≡ Some part → slice_get flow.graph_threads thread ≡ Some graph_thread →
    AreUnnull text.refers (known_at text part.first graph_thread.at) graph_thread.locals
