-- Conflicts, by where one arrives in a region.
use Rattle.std.specs.Prelude.{◌≡◌, ◌⊎◌, ◌↔◌, ◌<◌, ◌≤◌, ℕ, List, length, min, map, Bool, true}
use Rattle.std.specs.Prelude.{false, Option, Some, None, MatchOption, Contains, IsTrue, slice_get}
use Rattle.ido_base.specs.declared.location.Location.{Location}
use Rattle.ido_base.specs.Locations.{overlap, same}
use Rattle.flow_graph.specs.declared.graph.Node as code
use Rattle.flow_graph.specs.Nodes.{Action, Eval, Store, Test, Lock, Unlock, End, Node, Graph}
use Rattle.flow_graph.specs.Liveness.{NodeAt}
use Rattle.flow_graph.specs.IdempotentCuts.{Boundaries, BeginsRegion}
use Rattle.region_checker.specs.declared.paths.Path.{Path}
use Rattle.region_checker.specs.declared.paths.Regions.{Regions}
use Rattle.region_checker.specs.declared.error.CheckError.{CheckError}
use Rattle.region_checker.specs.declared.error.CheckError.TheVariants as error
use Rattle.region_checker.specs.declared.checking.Conflict as found
use Rattle.region_checker.specs.Conflicts.{LacksAfter, LacksBefore, Conflict, IsFirstConflict, IsFirstAfter, IsFirstBefore}
use Rattle.region_checker.specs.links.MarkPropagation.{IsMarked, PathLeads, IsInnerEdge, Arrives, ArePaths}

-- ---- Nodes

abbrev pub is_lock : Action → Bool
is_lock (Lock lock next) = true
is_lock (Eval target value next) = false
is_lock (Store variable kind next) = false
is_lock (Test condition holds fails) = false
is_lock (Unlock lock next) = false
is_lock End = false

abbrev pub is_unlock : Action → Bool
is_unlock (Unlock lock next) = true
is_unlock (Eval target value next) = false
is_unlock (Store variable kind next) = false
is_unlock (Test condition holds fails) = false
is_unlock (Lock lock next) = false
is_unlock End = false

-- of the node's elements one may be among these
abbrev pub writes_over : Location → Option Location → Bool
writes_over elements None = false
writes_over elements (Some written) = overlap written elements

-- the node writes this very element
abbrev pub writes_same : Location → Option Location → Bool
writes_same elements None = false
writes_same elements (Some written) = same written elements

pub record ReadsElements (g : Graph) (elements : Location) (node : ℕ) : Type 0 where
  pub is : Node
  pub at : NodeAt g node is
  pub reads : Contains is.reads elements

pub record WritesOver (g : Graph) (elements : Location) (node : ℕ) : Type 0 where
  pub is : Node
  pub at : NodeAt g node is
  pub writes : IsTrue (writes_over elements is.writes)

pub record WritesSame (g : Graph) (elements : Location) (node : ℕ) : Type 0 where
  pub is : Node
  pub at : NodeAt g node is
  pub writes : IsTrue (writes_same elements is.writes)

-- ---- Hits

abbrev pub Never : ℕ → Type 0
Never node = ⊥

-- a region leads to the node on which the element wasn't written before
abbrev pub IsUnwritten : Graph → Boundaries → Location → (node : ℕ) → Type 0
IsUnwritten g b elements node = Arrives (IsInnerEdge g b) (BeginsRegion g b) (WritesSame g elements) node

-- the node reads the elements, on a path of a region on which they weren't written before
pub record Exposes (g : Graph) (b : Boundaries) (elements : Location) (node : ℕ) : Type 0 where
  pub reads : ReadsElements g elements node
  pub unwritten : IsUnwritten g b elements node

-- after nodes of the start one comes to the store
pub record LeadsToStore (g : Graph) (b : Boundaries) (start : ℕ → Type 0) (store : ℕ) : Type 0 where
  pub last : ℕ
  pub comes : Arrives (IsInnerEdge g b) start Never last
  pub goes : IsInnerEdge g b last store

-- the store writes over what was read before
pub record IsHit (g : Graph) (b : Boundaries) (elements : Location) (store : ℕ) : Type 0 where
  pub follows : LeadsToStore g b (Exposes g b elements) store
  pub writes : WritesOver g elements store

-- the read is one of them
pub record Hits (g : Graph) (b : Boundaries) (read store : ℕ) (elements : Location) : Type 0 where
  pub exposes : Exposes g b elements read
  pub follows : LeadsToStore g b (λ n. n ≡ read) store
  pub writes : WritesOver g elements store

pub record HitsAny (g : Graph) (b : Boundaries) (read store : ℕ) : Type 0 where
  pub elements : Location
  pub hits : Hits g b read store elements

-- ---- What the code keeps

-- where regions begin
pub record AreBegun (g : Graph) (b : Boundaries) (begins : List Bool) : Type 0 where
  pub count : length begins ≡ length g.nodes
  pub each : (node : ℕ) → IsMarked begins node ↔ ((node < length g.nodes) × BeginsRegion g b node)

-- regions: paths between nodes, and where they begin
pub record AreRegions (g : Graph) (b : Boundaries) (paths : List Path) (begins : List Bool) : Type 0 where
  pub lead : ArePaths g b paths
  pub begun : AreBegun g b begins

-- paths and beginnings of regions are as many as there are nodes
pub record AreFitting (nodes : List code.Node) (regions : Regions) : Type 0 where
  pub paths : length regions.paths.items ≡ length nodes
  pub begins : length regions.begins.items ≡ length nodes

-- the property holds for the boundaries between which these are the regions
abbrev pub ForRegions : Graph → Regions → (Boundaries → Type 0) → Type 0
ForRegions g regions P = (b : Boundaries) → AreRegions g b regions.paths.items regions.begins.items → P b

abbrev pub stops_of : Location → List code.Node → List Bool
stops_of elements nodes = map (λ (x : code.Node). writes_same elements x.writes) nodes

-- the marked nodes that read the elements
pub record AreReadAt (nodes : List code.Node) (marks : List Bool) (elements : Location) (read : List Bool) : Type 0 where
  pub count : length read ≡ length nodes
  pub each : (n : ℕ) (x : code.Node) → slice_get nodes n ≡ Some x → IsMarked read n ↔ (IsMarked marks n × Contains x.reads.items elements)

-- the nodes where one arrives from the start, none of the nodes before being one that stops it
pub record AreArrived (g : Graph) (b : Boundaries) (start stop : ℕ → Type 0) (marks : List Bool) : Type 0 where
  pub count : length marks ≡ length g.nodes
  pub each : (node : ℕ) → IsMarked marks node ↔ ((node < length g.nodes) × Arrives (IsInnerEdge g b) start stop node)

abbrev pub AreUnwritten : Graph → Boundaries → Location → List Bool → Type 0
AreUnwritten g b elements marks = AreArrived g b (BeginsRegion g b) (WritesSame g elements) marks

abbrev pub AreExposed : Graph → Boundaries → Location → List Bool → Type 0
AreExposed g b elements marks = AreArrived g b (Exposes g b elements) Never marks

-- the location is there, and so is what was there
pub record IsAdded (old now : List Location) (location : Location) : Type 0 where
  pub keeps : (x : Location) → Contains old x → Contains now x
  pub there : Contains now location

-- each location that is read is among them
pub record AreAllRead (g : Graph) (locations : List Location) : Type 0 where
  pub each : (elements : Location) (node : ℕ) → ReadsElements g elements node → Contains locations elements

-- the least number of which it holds, or none if it holds of none
abbrev pub IsLeastOf : (ℕ → Type 0) → Option ℕ → Type 0
IsLeastOf P found = MatchOption found ((n : ℕ) → ¬ (P n)) (λ least. P least × ((n : ℕ) → P n → least ≤ n))

abbrev pub lesser : Option ℕ → Option ℕ → Option ℕ
lesser None other = other
lesser (Some one) None = Some one
lesser (Some one) (Some other) = Some (min one other)

-- a path leads from a marked node to that one
pub record IsPastMarked (paths : List Path) (marks : List Bool) (node : ℕ) : Type 0 where
  pub from : ℕ
  pub marked : IsMarked marks from
  pub leads : PathLeads paths from node

pub record IsAfterAt (paths : List Path) (marks : List Bool) (number node : ℕ) : Type 0 where
  pub marked : IsMarked marks number
  pub leads : PathLeads paths number node

pub record IsOver (g : Graph) (elements : Location) (at : ℕ → Type 0) (node : ℕ) : Type 0 where
  pub is : at node
  pub writes : WritesOver g elements node

-- some location is hit
pub record IsHitSome (g : Graph) (b : Boundaries) (store : ℕ) : Type 0 where
  pub elements : Location
  pub hit : IsHit g b elements store

-- the node exposes elements that the other one writes over
pub record ExposesOver (g : Graph) (b : Boundaries) (read store : ℕ) : Type 0 where
  pub elements : Location
  pub exposes : Exposes g b elements read
  pub writes : WritesOver g elements store

pub record IsExposedAt (g : Graph) (b : Boundaries) (read store : ℕ) (elements : Location) : Type 0 where
  pub unwritten : IsUnwritten g b elements read
  pub writes : WritesOver g elements store

-- ---- Missing boundaries

-- what the node lacks
abbrev pub Misses : Graph → Boundaries → (node : ℕ) → Option CheckError → Type 0
Misses g b node None = ¬ (LacksAfter g b node ⊎ LacksBefore g b node)
Misses g b node (Some (error.MissingAfterAcquire at)) = (at ≡ node) × LacksAfter g b node
Misses g b node (Some (error.MissingBeforeRelease at)) = (at ≡ node) × LacksBefore g b node
Misses g b node (Some (error.Anti read store)) = ⊥
Misses g b node (Some error.Memory) = ⊥

abbrev pub IsFirstMissing : Graph → Boundaries → CheckError → Type 0
IsFirstMissing g b (error.MissingAfterAcquire node) = IsFirstAfter g b node
IsFirstMissing g b (error.MissingBeforeRelease node) = IsFirstBefore g b node
IsFirstMissing g b (error.Anti read store) = ⊥
IsFirstMissing g b error.Memory = ⊥

-- ---- The first conflict

abbrev pub IsFirstFound : Graph → Boundaries → Option found.Conflict → Type 0
IsFirstFound g b None = (read store : ℕ) → ¬ (Conflict g b read store)
IsFirstFound g b (Some found) = IsFirstConflict g b found.read found.store

abbrev pub with_read : (store : ℕ) → (read : Option ℕ) → Option found.Conflict
with_read store None = None
with_read store (Some read) = Some (record { read = read; store = store })
