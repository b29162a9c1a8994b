-- Sets of locals, one of each node, on their way to those that are live: what nodes read, and what passes over the nodes add.
use Rattle.std.specs.Prelude.{◌≡◌, ◌≢◌, ◌⊎◌, ◌↔◌, ◌<◌, ◌≤◌, ℕ, List, [], length, map, Bool, true}
use Rattle.std.specs.Prelude.{false, Contains, slice_get, slice_index_or, sum_by, Option, Some, None}
use Rattle.flow_graph.specs.declared.graph.Node as code
use Rattle.flow_graph.specs.Nodes.{Node, Graph, node_of, successors}
use Rattle.flow_graph.specs.Liveness.{IsLive}
use Rattle.flow_graph.specs.LocalSets.{HasAt}
use Rattle.flow_graph.specs.links.SetCapacity.{room}

-- each set has so many words
pub record AreLong (sets : List (List ℕ)) (words : ℕ) : Type 0 where
  pub each : (n : ℕ) → n < length sets → length (slice_index_or sets n []) ≡ words

-- what can still be added to the sets
abbrev pub rooms : List (List ℕ) → ℕ
rooms sets = sum_by room sets

-- ---- What nodes read

-- each local that a node reads is at most that one
pub record AreUpTo (nodes : List code.Node) (most : ℕ) : Type 0 where
  pub each : (n local : ℕ) (x : code.Node) → slice_get nodes n ≡ Some x → Contains x.uses.items local → local ≤ most

pub record UsesLocal (nodes : List code.Node) (number local : ℕ) : Type 0 where
  pub is : code.Node
  pub at : slice_get nodes number ≡ Some is
  pub reads : Contains is.uses.items local

-- the sets of the nodes are those that they read
pub record AreRead (nodes : List code.Node) (sets : List (List ℕ)) : Type 0 where
  pub count : length sets ≡ length nodes
  pub has : (number local : ℕ) → HasAt sets number local ↔ UsesLocal nodes number local

-- ---- What passes add

-- the local is in the set of a node, if there is that one
abbrev pub HasBoundaryAfter : (sets : List (List ℕ)) → (successor : Option ℕ) → (local : ℕ) → Type 0
HasBoundaryAfter sets None local = ⊥
HasBoundaryAfter sets (Some number) local = HasAt sets number local

-- the local comes to a node's entry from a successor
pub record IsLiveFromSuccessor (x : Node) (sets : List (List ℕ)) (local : ℕ) : Type 0 where
  pub keeps : x.assigns ≢ Some local
  pub successor : ℕ
  pub goes : Contains (successors x.action) successor
  pub has : HasAt sets successor local

-- to the set of this node are added the locals that come to it, and any is new or none
pub record Adds (x : Node) (number : ℕ) (before after : List (List ℕ)) (grows : Bool) : Type 0 where
  pub long : (words : ℕ) → AreLong before words → AreLong after words
  pub has : (n local : ℕ) → HasAt after n local ↔ (HasAt before n local ⊎ ((n ≡ number) × IsLiveFromSuccessor x before local))
  pub same : grows ≡ false → after ≡ before
  pub fewer : grows ≡ true → rooms after < rooms before

-- each local in the sets is live
abbrev pub AreSound : Graph → List (List ℕ) → Type 0
AreSound g sets = (number local : ℕ) → HasAt sets number local → IsLive g local number

-- each local that comes to one of the nodes from this one on is in its set
abbrev pub AreClosed : List code.Node → (from : ℕ) → List (List ℕ) → Type 0
AreClosed nodes from sets =
    (n local : ℕ) (x : code.Node) → from ≤ n → slice_get nodes n ≡ Some x → IsLiveFromSuccessor (node_of x) sets local → HasAt sets n local

-- a pass over the nodes from this one on has added some, or has added none and there was none to add
pub record IsLivenessPass (nodes : List code.Node) (from : ℕ) (before after : List (List ℕ)) (grows : Bool) : Type 0 where
  pub long : (words : ℕ) → AreLong before words → AreLong after words
  pub keeps : (n local : ℕ) → HasAt before n local → HasAt after n local
  pub sound : (g : Graph) → g.nodes ≡ map node_of nodes → AreSound g before → AreSound g after
  pub same : grows ≡ false → after ≡ before
  pub closed : grows ≡ false → AreClosed nodes from after
  pub fewer : grows ≡ true → rooms after < rooms before
