-- Sets of locals, as their words: bit b of word w says whether local 64 w + b is in the set.
use Rattle.std.specs.Prelude.{◌≡◌, ◌↔◌, ◌/◌, ◌%◌, ℕ, List, [], slice_index, slice_index_or}
use Rattle.std.specs.Int.{bit_at}
use Rattle.flow_graph.specs.Nodes.{Graph}
use Rattle.flow_graph.specs.Liveness.{IsLive}

-- the local is in the set
unfoldable pub Has : (set : List ℕ) → (local : ℕ) → Type 0
Has set local = bit_at (slice_index set (local / 64)) (local % 64) ≡ 1

-- the local is in the set of that number; where there is no such set none is
abbrev pub HasAt : (sets : List (List ℕ)) → (number local : ℕ) → Type 0
HasAt sets number local = Has (slice_index_or sets number []) local

-- the sets are those of the graph: a local is in a node's exactly where it is live at the node's entry
pub record AreLive (g : Graph) (sets : List (List ℕ)) : Type 0 where
  pub each : (node local : ℕ) → HasAt sets node local ↔ IsLive g local node
