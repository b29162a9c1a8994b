-- Fewest boundaries on straight code, and labels that show that there can't be fewer.
use Rattle.std.specs.Prelude.{◌≡◌, ◌⊎◌, ◌<◌, ◌≤◌, ◌-◌, ℕ, suc, List, [], ◌∷◌, length, slice_get, slice_index_or, Contains, Some, None}
use Rattle.ido_base.specs.declared.location.Location.{Location}
use Rattle.ido_ints.specs.declared.kinds.Kind.{Kind}
use Rattle.c_tree.specs.Exprs.{Placed, Lvalue}
use Rattle.flow_graph.specs.Nodes.{Eval, Store, Node, Graph}
use Rattle.flow_graph.specs.Liveness.{NodeAt}
use Rattle.flow_graph.specs.IdempotentCuts.{Boundaries, IsEdge, IsLock, IsUnlock, HasBefore, AreCuts}
use Rattle.region_cutter.specs.declared.straight.Stretch.{Stretch}
use Rattle.region_cutter.specs.Elements.{ReadsElements, WritesOver, WritesSame}

-- ---- Straight code

-- the node evaluates or stores
pub data IsPlain (g : Graph) (node : ℕ) : Type 0 where
  evaluates : (x : Node) (target : Lvalue) (value : Placed) (next : ℕ) → NodeAt g node x → x.action ≡ Eval target value next → IsPlain g node
  stores : (x : Node) (variable : ℕ) (kind : Kind) (next : ℕ) → NodeAt g node x → x.action ≡ Store variable kind next → IsPlain g node

-- the node takes a mutex or gives one back, and touches no variable
pub record Synchronises (g : Graph) (node : ℕ) : Type 0 where
  pub is : Node
  pub at : NodeAt g node is
  pub takes_or_gives : IsLock g node ⊎ IsUnlock g node
  pub no_reads : is.reads ≡ []
  pub no_write : is.writes ≡ None

-- the nodes from `first` up to before `past` evaluate and store, one after another, with no other way in or out, between two nodes that
-- take mutexes or give them back
pub record IsStretch (g : Graph) (first past : ℕ) : Type 0 where
  pub some : first < past
  pub plain : (node : ℕ) → first ≤ node → node < past → IsPlain g node
  pub goes_on : (node : ℕ) → first ≤ node → suc node < past → IsEdge g node (suc node)
  pub only_from : (node from : ℕ) → first ≤ node → suc node < past → IsEdge g from (suc node) → from ≡ node
  pub before : ℕ
  pub begins : Synchronises g before
  pub enters : IsEdge g before first
  pub only_enters : (from : ℕ) → IsEdge g from first → from ≡ before
  pub after : ℕ
  pub ends : Synchronises g after
  pub leaves : (last : ℕ) → suc last ≡ past → IsEdge g last after

-- all stretches, by their first nodes
pub record AreStretches (g : Graph) (stretches : List Stretch) : Type 0 where
  pub is : (k : ℕ) (s : Stretch) → slice_get stretches k ≡ Some s → IsStretch g s.first s.past
  pub all : (first past : ℕ) → IsStretch g first past → Contains stretches (record { first = first; past = past })
  pub in_order : (k l : ℕ) (s t : Stretch) → k < l → slice_get stretches k ≡ Some s → slice_get stretches l ≡ Some t → s.first < t.first

-- ---- Regions of straight code

-- in a region of the nodes from `from` up to before `to`, elements are read that weren't written before, and later they may be overwritten
pub record ConflictOver (g : Graph) (elements : Location) (from to : ℕ) : Type 0 where
  pub read : ℕ
  pub store : ℕ
  pub within : from ≤ read
  pub later : read < store
  pub below : store < to
  pub reads : ReadsElements g elements read
  pub writes : WritesOver g elements store
  pub exposed : (earlier : ℕ) → from ≤ earlier → earlier < read → ¬ (WritesSame g elements earlier)

abbrev pub Conflict : Graph → (from to : ℕ) → Type 0
Conflict g from to = (elements : Location) × ConflictOver g elements from to

-- boundaries before these nodes divide the code into regions that may be run again
pub data Divides (g : Graph) (past : ℕ) : (from : ℕ) → (cuts : List ℕ) → Type 0 where
  one_region : (from : ℕ) → from < past → ¬ (Conflict g from past) → Divides g past from []
  region_and : (from cut : ℕ) (cuts : List ℕ) → from < cut → ¬ (Conflict g from cut) → Divides g past cut cuts → Divides g past from (cut ∷ cuts)

-- of two lists, at the first difference this one has the lesser number
pub data IsNoLater : List ℕ → List ℕ → Type 0 where
  none : IsNoLater [] []
  earlier : (cut other : ℕ) (cuts others : List ℕ) → cut < other → IsNoLater (cut ∷ cuts) (other ∷ others)
  equal : (cut : ℕ) (cuts others : List ℕ) → IsNoLater cuts others → IsNoLater (cut ∷ cuts) (cut ∷ others)

-- they are the fewest, and of the fewest the first stands as late as it can, then the second, and so on
pub record AreFewest (g : Graph) (first past : ℕ) (cuts : List ℕ) : Type 0 where
  pub divides : Divides g past first cuts
  pub fewest : (others : List ℕ) → Divides g past first others → length cuts ≤ length others
  pub latest : (others : List ℕ) → Divides g past first others → length others ≡ length cuts → IsNoLater others cuts

-- ---- Labels

-- the number that the list, which begins with that of `first`, has for this node
abbrev pub at : (first : ℕ) → List ℕ → (node : ℕ) → ℕ
at first numbers node = slice_index_or numbers (node - first) 0

-- the nodes may be in one region, at whose end the label is more than one greater
pub record IsSteep (g : Graph) (first past : ℕ) (labels : List ℕ) (from to : ℕ) : Type 0 where
  pub from_first : first ≤ from
  pub later : from < to
  pub to_past : to ≤ past
  pub free : ¬ (Conflict g from to)
  pub greater : suc (at first labels from) < at first labels to

-- no region leads to a label more than one greater, and the last label is greater by one than so many boundaries
pub record AreLabels (g : Graph) (first past : ℕ) (boundaries : ℕ) (labels : List ℕ) : Type 0 where
  pub start : at first labels first ≡ 0
  pub edges : (from to : ℕ) → ¬ (IsSteep g first past labels from to)
  pub end : at first labels past ≡ suc boundaries

-- ---- Boundaries in straight code

-- the nodes after `from` and before `past` before which boundaries stand
pub data AreInside (b : Boundaries) (past : ℕ) : (from : ℕ) → (cuts : List ℕ) → Type 0 where
  none_inside : (from : ℕ) → ((node : ℕ) → from < node → node < past → ¬ (HasBefore b node)) → AreInside b past from []
  one_inside : (from cut : ℕ) (cuts : List ℕ) → from < cut → cut < past → HasBefore b cut → ((node : ℕ) → from < node → node < cut → ¬ (HasBefore b node)) →
      AreInside b past cut cuts → AreInside b past from (cut ∷ cuts)

-- each cut set has so many boundaries inside, or more
abbrev pub NoneHasFewer : Graph → (first past boundaries : ℕ) → Type 0
NoneHasFewer g first past boundaries = (b : Boundaries) (cuts : List ℕ) → AreCuts g b → AreInside b past first cuts → boundaries ≤ length cuts

-- the boundaries in the stretch are the fewest: no cut set has fewer there, and of cut sets with as few none has later ones
pub record HasFewest (g : Graph) (b : Boundaries) (first past : ℕ) : Type 0 where
  pub cuts : List ℕ
  pub inside : AreInside b past first cuts
  pub fewest : AreFewest g first past cuts
  pub none_fewer : NoneHasFewer g first past (length cuts)

-- they are in each stretch
abbrev pub AreFewestCuts : Graph → Boundaries → Type 0
AreFewestCuts g b = (first past : ℕ) → IsStretch g first past → HasFewest g b first past

-- ---- Laws

-- labels show that no cut set has fewer boundaries in the stretch
abbrev pub LabelsBound : Type 0
LabelsBound = (g : Graph) (first past boundaries : ℕ) (labels : List ℕ) → IsStretch g first past → AreLabels g first past boundaries labels →
    NoneHasFewer g first past boundaries
