-- How far regions of straight code may go, and how many are needed from each node on.
use Rattle.std.specs.Prelude.{◌≡◌, ◌⊎◌, ◌<◌, ◌≤◌, ◌-◌, ℕ, suc, List, [], ◌∷◌, length, slice_get, Some}
use Rattle.ido_base.specs.declared.location.Location.{Location}
use Rattle.flow_graph.specs.Nodes.{Graph}
use Rattle.region_cutter.specs.declared.region_limits.Track.{Track}
use Rattle.region_cutter.specs.Elements.{ReadsElements, WritesOver}
use Rattle.region_cutter.specs.FewestCuts.{Conflict, ConflictOver, at}

-- ---- Limits

-- the first node from there on that may write one of the elements, or the end
pub record IsNext (g : Graph) (elements : Location) (from past next : ℕ) : Type 0 where
  pub from_there : from ≤ next
  pub to_past : next ≤ past
  pub none : (node : ℕ) → from ≤ node → node < next → ¬ (WritesOver g elements node)
  pub writes : next < past → WritesOver g elements next

-- the first node that may overwrite the elements where a region that begins there has read them and hadn't written them before, or the end
pub record IsHit (g : Graph) (elements : Location) (from past hit : ℕ) : Type 0 where
  pub to_past : hit ≤ past
  pub free : ¬ (ConflictOver g elements from hit)
  pub conflict : hit < past → ConflictOver g elements from (suc hit)

pub record IsTracked (g : Graph) (from past : ℕ) (track : Track) : Type 0 where
  pub next : IsNext g track.elements from past track.next
  pub hit : IsHit g track.elements from past track.hit

pub record HasTrack (tracks : List Track) (elements : Location) : Type 0 where
  pub number : ℕ
  pub track : Track
  pub there : slice_get tracks number ≡ Some track
  pub is : track.elements ≡ elements

abbrev pub AreTracked : Graph → (from past : ℕ) → List Track → Type 0
AreTracked g from past tracks = (number : ℕ) (track : Track) → slice_get tracks number ≡ Some track → IsTracked g from past track

-- what is read is among them too, as seen from the end
pub record AddsTracks (past : ℕ) (IsRead : Location → Type 0) (old new : List Track) : Type 0 where
  pub kept : (elements : Location) → HasTrack old elements → HasTrack new elements
  pub added : (elements : Location) → IsRead elements → HasTrack new elements
  pub fresh : (number : ℕ) (track : Track) → slice_get new number ≡ Some track →
      (slice_get old number ≡ Some track) ⊎ ((track.next ≡ past) × (track.hit ≡ past))

-- all are seen from the end
abbrev pub AreAtEnd : (past : ℕ) → List Track → Type 0
AreAtEnd past tracks = (number : ℕ) (track : Track) → slice_get tracks number ≡ Some track → (track.next ≡ past) × (track.hit ≡ past)

-- what is read in the stretch is among them
abbrev pub HaveReads : Graph → (first past : ℕ) → List Track → Type 0
HaveReads g first past tracks = (node : ℕ) (elements : Location) → first ≤ node → node < past → ReadsElements g elements node → HasTrack tracks elements

-- the least hit, or the end
pub record IsLeastHit (past limit : ℕ) (tracks : List Track) : Type 0 where
  pub to_past : limit ≤ past
  pub least : (number : ℕ) (track : Track) → slice_get tracks number ≡ Some track → limit ≤ track.hit
  pub one : (limit ≡ past) ⊎ ((track : Track) × (number : ℕ) × (slice_get tracks number ≡ Some track) × (limit ≡ track.hit))

-- a region that begins there may go up to before the limit, and no further
pub record IsLimit (g : Graph) (from past limit : ℕ) : Type 0 where
  pub later : from < limit
  pub to_past : limit ≤ past
  pub free : ¬ (Conflict g from limit)
  pub conflict : limit < past → Conflict g from (suc limit)

-- the limits of the nodes from that one on
pub record AreLimits (g : Graph) (first past from : ℕ) (limits : List ℕ) : Type 0 where
  pub long : length limits ≡ past - first
  pub each : (node : ℕ) → from ≤ node → node < past → IsLimit g node past (at first limits node)

-- ---- Counts of regions

-- the limit of each node is later than the node, and no later than the end
pub record AreSteps (first past : ℕ) (limits : List ℕ) : Type 0 where
  pub long : length limits ≡ past - first
  pub later : (node : ℕ) → first ≤ node → node < past → node < at first limits node
  pub to_past : (node : ℕ) → first ≤ node → node < past → at first limits node ≤ past

-- from the node a region leads to one from which one region less is needed
pub record LeadsOn (first past : ℕ) (limits counts : List ℕ) (node : ℕ) : Type 0 where
  pub to : ℕ
  pub later : node < to
  pub within : to ≤ at first limits node
  pub count : at first counts node ≡ suc (at first counts to)

-- how many regions are needed from each node on, of those from that one on
pub record AreCounts (first past from : ℕ) (limits counts : List ℕ) : Type 0 where
  pub long : length counts ≡ suc (past - first)
  pub end : at first counts past ≡ 0
  pub least : (node to : ℕ) → from ≤ node → node < past → node < to → to ≤ at first limits node → at first counts node ≤ suc (at first counts to)
  pub leads : (node : ℕ) → from ≤ node → node < past → LeadsOn first past limits counts node

-- of each count the nearest node from there on from which no more regions are needed
pub record AreNearest (first past from : ℕ) (counts nearest : List ℕ) : Type 0 where
  pub some : 0 < length nearest
  pub from_there : (count node : ℕ) → slice_get nearest count ≡ Some node → from ≤ node
  pub to_past : (count node : ℕ) → slice_get nearest count ≡ Some node → node ≤ past
  pub counted : (count node : ℕ) → slice_get nearest count ≡ Some node → at first counts node ≡ count
  pub least : (count node other : ℕ) → slice_get nearest count ≡ Some node → from ≤ other → other ≤ past → at first counts other ≤ count → node ≤ other
  pub last : (count node : ℕ) → suc count ≡ length nearest → slice_get nearest count ≡ Some node → node ≡ from

-- the first of them, as many as that the last one is within the limit, and no fewer
pub record AreWithin (limit : ℕ) (old new : List ℕ) : Type 0 where
  pub some : 0 < length new
  pub kept : (count node : ℕ) → slice_get new count ≡ Some node → slice_get old count ≡ Some node
  pub within : (count node : ℕ) → suc count ≡ length new → slice_get new count ≡ Some node → node ≤ limit
  pub past : (count node : ℕ) → suc (suc count) ≡ length new → slice_get new count ≡ Some node → limit < node

-- the latest node to which a region from there leads and from which one region less is needed
pub record IsLatestCut (first : ℕ) (limits counts : List ℕ) (from cut : ℕ) : Type 0 where
  pub later : from < cut
  pub within : cut ≤ at first limits from
  pub count : at first counts from ≡ suc (at first counts cut)
  pub latest : (other : ℕ) → cut < other → other ≤ at first limits from → ¬ (at first counts from ≡ suc (at first counts other))

-- from the node each region leads to the latest such node, until one region is left
pub data AreChosen (first past : ℕ) (limits counts : List ℕ) : (from : ℕ) → List ℕ → Type 0 where
  one_left : (from : ℕ) → at first counts from ≤ 1 → AreChosen first past limits counts from []
  one_chosen : (from cut : ℕ) (cuts : List ℕ) → cut < past → IsLatestCut first limits counts from cut → AreChosen first past limits counts cut cuts →
      AreChosen first past limits counts from (cut ∷ cuts)
