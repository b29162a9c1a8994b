-- Idempotent cuts: where a thread can be resumed, so that what is run again reads nothing that it has overwritten.
use Rattle.std.specs.Prelude.{◌≡◌, ◌⊎◌, ◌<◌, ℕ, List, [], ◌∷◌, length, slice_get, slice_set, Contains, Some, Bool, true, false, IsTrue}
use Rattle.c_tree.specs.Exprs.{LockName}
use Rattle.ido_base.specs.declared.location.Location.{Location}
use Rattle.ido_base.specs.Locations.{overlap, same}
use Rattle.ido_ints.specs.declared.kinds.Kind.{Kind}
use Rattle.flow_graph.specs.declared.cuts.Cuts.{Cuts}
use Rattle.flow_graph.specs.Nodes.{Store, Lock, Unlock, Node, Graph, successors}
use Rattle.flow_graph.specs.Liveness.{NodeAt}

-- of each node whether a boundary stands before it, and of each that takes a lock whether one stands after it
pub record Boundaries : Type 0 where
  pub before : List Bool
  pub after_lock : List Bool

abbrev pub boundaries_of : Cuts → Boundaries
boundaries_of x = record { before = x.before.items; after_lock = x.after_lock.items }

pub record IsEdge (g : Graph) (from to : ℕ) : Type 0 where
  pub is : Node
  pub at : NodeAt g from is
  pub goes : Contains (successors is.action) to

-- ---- Boundaries

pub data IsLock (g : Graph) (node : ℕ) : Type 0 where
  locks : (x : Node) (lock : LockName) (next : ℕ) → NodeAt g node x → x.action ≡ Lock lock next → IsLock g node

pub data IsUnlock (g : Graph) (node : ℕ) : Type 0 where
  unlocks : (x : Node) (lock : LockName) (next : ℕ) → NodeAt g node x → x.action ≡ Unlock lock next → IsUnlock g node

pub data IsStoreNode (g : Graph) (node : ℕ) : Type 0 where
  stores : (x : Node) (variable : ℕ) (kind : Kind) (next : ℕ) → NodeAt g node x → x.action ≡ Store variable kind next → IsStoreNode g node

abbrev pub HasBefore : Boundaries → (node : ℕ) → Type 0
HasBefore b node = slice_get b.before node ≡ Some true

-- the node takes a lock, and a boundary stands after it
pub record HasBoundaryAfter (g : Graph) (b : Boundaries) (node : ℕ) : Type 0 where
  pub locks : IsLock g node
  pub stands : slice_get b.after_lock node ≡ Some true

-- on the way from the one node to the other a boundary is passed
abbrev pub IsBoundary : Graph → Boundaries → (from to : ℕ) → Type 0
IsBoundary g b from to = HasBoundaryAfter g b from ⊎ HasBefore b to

-- a region begins at the node
pub data BeginsRegion (g : Graph) (b : Boundaries) (node : ℕ) : Type 0 where
  past_lock : (from : ℕ) → HasBoundaryAfter g b from → IsEdge g from node → BeginsRegion g b node
  at_boundary : HasBefore b node → BeginsRegion g b node

-- the node writes an element, as a store does
pub record Writes (g : Graph) (node : ℕ) : Type 0 where
  pub is : Node
  pub at : NodeAt g node is
  pub written : Location
  pub writes : is.writes ≡ Some written

-- of each node it is said whether boundaries stand at it; they stand after locks, and before unlocks and nodes that write
pub record AreAtWrites (g : Graph) (b : Boundaries) : Type 0 where
  pub after : (node : ℕ) → slice_get b.after_lock node ≡ Some true → IsLock g node
  pub before : (node : ℕ) → HasBefore b node → IsUnlock g node ⊎ Writes g node
  pub before_count : length b.before ≡ length g.nodes
  pub after_count : length b.after_lock ≡ length g.nodes

-- ---- Paths

-- the nodes of a path that passes no boundary
pub data IsInside (g : Graph) (b : Boundaries) : List ℕ → Type 0 where
  stays : (node : ℕ) → IsInside g b (node ∷ [])
  goes_on : (from to : ℕ) (rest : List ℕ) → IsEdge g from to → ¬ (IsBoundary g b from to) → IsInside g b (to ∷ rest) → IsInside g b (from ∷ to ∷ rest)

-- the path's node at this position reads the elements, or writes one of them
pub record ReadsAt (g : Graph) (path : List ℕ) (position : ℕ) (elements : Location) : Type 0 where
  pub node : ℕ
  pub is : Node
  pub there : slice_get path position ≡ Some node
  pub at : NodeAt g node is
  pub reads : Contains is.reads elements

pub record WritesAt (g : Graph) (path : List ℕ) (position : ℕ) (elements : Location) : Type 0 where
  pub node : ℕ
  pub is : Node
  pub there : slice_get path position ≡ Some node
  pub at : NodeAt g node is
  pub writes : is.writes ≡ Some elements

-- the very element was written before that position
pub record IsWrittenBefore (g : Graph) (path : List ℕ) (position : ℕ) (element : Location) : Type 0 where
  pub earlier : ℕ
  pub written : Location
  pub before : earlier < position
  pub writes : WritesAt g path earlier written
  pub is : IsTrue (same written element)

-- no region overwrites what it has read, unless it had written that element before it read it
abbrev pub IsIdempotent : Graph → Boundaries → Type 0
IsIdempotent g b = (from : ℕ) (path : List ℕ) → BeginsRegion g b from → IsInside g b (from ∷ path) →
    (i j : ℕ) (read written : Location) → i < j → ReadsAt g (from ∷ path) i read → WritesAt g (from ∷ path) j written → IsTrue (overlap written read) →
    IsWrittenBefore g (from ∷ path) i read

-- ---- Cuts

-- a boundary stands after each lock and before each unlock, and regions may be run again
pub record AreCuts (g : Graph) (b : Boundaries) : Type 0 where
  pub past_locks : (node : ℕ) → IsLock g node → HasBoundaryAfter g b node
  pub before_unlocks : (node : ℕ) → IsUnlock g node → HasBefore b node
  pub idempotent : IsIdempotent g b

-- a boundary that stands there by choice
pub record IsChosen (g : Graph) (b : Boundaries) (node : ℕ) : Type 0 where
  pub stands : HasBefore b node
  pub free : ¬ (IsUnlock g node)

abbrev pub without : Boundaries → (node : ℕ) → Boundaries
without b node = record b { before = slice_set b.before node false }

-- with any chosen boundary taken away a region could not be run again
abbrev pub IsMinimal : Graph → Boundaries → Type 0
IsMinimal g b = (node : ℕ) → IsChosen g b node → ¬ (IsIdempotent g (without b node))
