-- How straight code is found: from which nodes edges lead to a node, and how far code goes straight on.
use Rattle.std.specs.Prelude.{◌≡◌, ◌≢◌, ◌<◌, ◌≤◌, ◌||◌, ℕ, suc, List, [], length, slice_get, Contains, Option, Some, None, Bool, true, false}
use Rattle.flow_graph.specs.Nodes.{Action, Eval, Store, Test, Lock, Unlock, End, Node, Graph}
use Rattle.flow_graph.specs.IdempotentCuts.{IsEdge}
use Rattle.region_cutter.specs.declared.straight.Entry.{Entry}
use Rattle.region_cutter.specs.declared.straight.Entry.TheVariants.{Nowhere, From, Several}
use Rattle.region_cutter.specs.declared.straight.Stretch.{Stretch}
use Rattle.region_cutter.specs.FewestCuts.{IsPlain, Synchronises, IsStretch}
use Rattle.region_cutter.specs.links.BoundaryTrials.{locks, unlocks}

-- ---- Nodes

abbrev pub plain : Action → Bool
plain (Eval target value next) = true
plain (Store variable kind next) = true
plain (Test condition holds fails) = false
plain (Lock lock next) = false
plain (Unlock lock next) = false
plain End = false

pub record IsSync (x : Node) : Type 0 where
  pub takes_or_gives : (locks x.action || unlocks x.action) ≡ true
  pub no_reads : x.reads ≡ []
  pub no_write : x.writes ≡ None

-- ---- Edges to a node

-- from which nodes edges lead, where one leads from that node too
abbrev pub Enters : (entry : Entry) → (from : ℕ) → (entry' : Entry) → Type 0
Enters Nowhere from entry' = entry' ≡ From from
Enters (From other) from entry' = (other ≡ from → entry' ≡ From other) × (other ≢ from → entry' ≡ Several)
Enters Several from entry' = entry' ≡ Several

-- an edge is noted at the node to which it leads
pub record EntersAt (from : ℕ) (to : Option ℕ) (old new : List Entry) : Type 0 where
  pub long : length new ≡ length old
  pub same : (node : ℕ) → ¬ (to ≡ Some node) → slice_get new node ≡ slice_get old node
  pub noted : (node : ℕ) (was is : Entry) → to ≡ Some node → slice_get old node ≡ Some was → slice_get new node ≡ Some is → Enters was from is

-- such nodes are none, one alone, or two and more
abbrev pub IsEntryOf : (ℕ → Type 0) → Entry → Type 0
IsEntryOf Enters Nowhere = (from : ℕ) → ¬ (Enters from)
IsEntryOf Enters (From one) = Enters one × ((from : ℕ) → Enters from → from ≡ one)
IsEntryOf Enters Several = (one : ℕ) × (other : ℕ) × (one ≢ other) × Enters one × Enters other

-- from a node below that number an edge leads to the node
pub record IsEdgeBelow (g : Graph) (below node from : ℕ) : Type 0 where
  pub below_it : from < below
  pub edge : IsEdge g from node

pub record AreEntries (g : Graph) (below : ℕ) (entries : List Entry) : Type 0 where
  pub long : length entries ≡ length g.nodes
  pub each : (node : ℕ) (entry : Entry) → slice_get entries node ≡ Some entry → IsEntryOf (IsEdgeBelow g below node) entry

-- ---- Straight on

-- to the node edges lead from that one alone
pub record IsEnteredFrom (g : Graph) (from node : ℕ) : Type 0 where
  pub edge : IsEdge g from node
  pub only : (other : ℕ) → IsEdge g other node → other ≡ from

-- the next number is that of a node that evaluates or stores, to which edges lead from this one alone
pub record GoesStraight (g : Graph) (node : ℕ) : Type 0 where
  pub entered : IsEnteredFrom g node (suc node)
  pub plain : IsPlain g (suc node)

-- up to there the code goes straight on, and no further
pub record IsStraightEnd (g : Graph) (first past : ℕ) : Type 0 where
  pub some : first < past
  pub within : past ≤ length g.nodes
  pub plain : (node : ℕ) → first ≤ node → node < past → IsPlain g node
  pub straight : (node : ℕ) → first ≤ node → suc node < past → GoesStraight g node
  pub ends : (last : ℕ) → suc last ≡ past → ¬ (GoesStraight g last)

pub record LeadsToSync (g : Graph) (last : ℕ) : Type 0 where
  pub after : ℕ
  pub edge : IsEdge g last after
  pub ends : Synchronises g after

-- the straight code that begins at the node, or there is none
pub record IsStretchAt (g : Graph) (first : ℕ) (found : Option Stretch) : Type 0 where
  pub is : (s : Stretch) → found ≡ Some s → (s.first ≡ first) × IsStretch g s.first s.past
  pub all : (past : ℕ) → IsStretch g first past → found ≡ Some (record { first = first; past = past })

-- that begins below that number
pub record AreStretchesBelow (g : Graph) (below : ℕ) (stretches : List Stretch) : Type 0 where
  pub is : (k : ℕ) (s : Stretch) → slice_get stretches k ≡ Some s → IsStretch g s.first s.past
  pub all : (first past : ℕ) → first < below → IsStretch g first past → Contains stretches (record { first = first; past = past })
  pub in_order : (k l : ℕ) (s t : Stretch) → k < l → slice_get stretches k ≡ Some s → slice_get stretches l ≡ Some t → s.first < t.first
  pub below_it : (k : ℕ) (s : Stretch) → slice_get stretches k ≡ Some s → s.first < below
