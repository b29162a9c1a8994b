-- Boundaries where a section logs each of its writes by itself, also that of a local.
use Rattle.std.specs.Prelude.{◌≡◌, ◌≢◌, ◌↔◌, ◌<◌, ◌≤◌, ◌+◌, ◌^◌, ℕ, List, length, slice_get, Some, None, true}
use Rattle.ido_base.specs.declared.place.Place.{Place}
use Rattle.ido_ints.specs.declared.kinds.Kind.{Kind}
use Rattle.c_tree.specs.Exprs.{Placed, ToLocal}
use Rattle.c_tree.specs.Flats.{Flat}
use Rattle.c_tree.specs.HoldPrices.{price_fault}
use Rattle.c_tree.specs.LockNames.{Held, count_held}
use Rattle.c_tree.specs.WellFormed.{IsWellFormed}
use Rattle.c_tree.specs.declared.language.Language.{Language}
use Rattle.lock_discipline.specs.HeldSetsByStep.{AreAllSetsOf}
use Rattle.flow_graph.specs.declared.graph.Part.{Part}
use Rattle.flow_graph.specs.Nodes.{Eval, Node, Graph}
use Rattle.flow_graph.specs.Liveness.{NodeAt}
use Rattle.flow_graph.specs.Lowering.{lowered}
use Rattle.flow_graph.specs.IdempotentCuts.{Boundaries, IsLock, IsUnlock, HasBefore, Writes}
use Rattle.region_cutter.specs.LocksAtBoundaries.{IsHeldBefore}

-- ---- Where they stand

-- the node assigns a local, and the table has a set before it in which a lock is held
pub record AssignsLocked (g : Graph) (table : List (List Held)) (node : ℕ) : Type 0 where
  pub is : Node
  pub at : NodeAt g node is
  pub place : Place
  pub local : ℕ
  pub kind : Kind
  pub value : Placed
  pub next : ℕ
  pub assigns : is.action ≡ Eval (ToLocal place local kind) value next
  pub before : IsHeldBefore g table node
  pub locked : count_held before.held ≢ 0

-- the node gives a lock back, writes a variable, or assigns a local while a lock is held
pub data NeedsBoundary (g : Graph) (table : List (List Held)) (node : ℕ) : Type 0 where
  gives : IsUnlock g node → NeedsBoundary g table node
  writes : Writes g node → NeedsBoundary g table node
  assigns : AssignsLocked g table node → NeedsBoundary g table node

-- boundaries stand before such nodes, after those that take a lock, and nowhere else
pub record AreAtEachWrite (g : Graph) (table : List (List Held)) (b : Boundaries) : Type 0 where
  pub before : (node : ℕ) → HasBefore b node ↔ NeedsBoundary g table node
  pub after : (node : ℕ) → (slice_get b.after_lock node ≡ Some true) ↔ IsLock g node
  pub before_count : length b.before ≡ length g.nodes
  pub after_count : length b.after_lock ≡ length g.nodes

-- ---- Of which tables

-- the table has a set before each node of the thread
pub record HasSetsOf (table : List (List Held)) (thread : ℕ) (part : Part) : Type 0 where
  pub sets : List Held
  pub row : slice_get table thread ≡ Some sets
  pub each : part.end ≡ part.first + length sets
  pub few : length sets < 2 ^ 32

-- of each thread of the graph
pub record AreSetsOfThreads (g : Graph) (table : List (List Held)) : Type 0 where
  pub sets : (thread : ℕ) (part : Part) → slice_get g.threads thread ≡ Some part → HasSetsOf table thread part
  pub within : (thread : ℕ) (part : Part) → slice_get g.threads thread ≡ Some part → part.end ≤ length g.nodes
  pub few : length g.threads < 2 ^ 32

-- the sets that are held in a well formed flat form whose price isn't too high are sets of the threads of its graph
abbrev pub HeldSetsAreOfThreads : Type 0
HeldSetsAreOfThreads = (l : Language) (x : Flat) (table : List (List Held)) → IsWellFormed x → price_fault l x ≡ None → AreAllSetsOf x table →
    AreSetsOfThreads (lowered x) table
