-- Reads that are known to be of what their regions have written before.
use Rattle.std.specs.Prelude.{◌≡◌, ◌⊎◌, ◌<◌, ℕ, List, length, Bool, true, false, Vec, Some, slice_get, IsTrue}
use Rattle.std.specs.Global.{Global}
use Rattle.ido_base.specs.declared.location.Location.{Location}
use Rattle.flow_graph.specs.Nodes.{Node, Graph}
use Rattle.flow_graph.specs.Liveness.{NodeAt}
use Rattle.flow_graph.specs.IdempotentCuts.{Boundaries, HasBefore, without}
use Rattle.region_cutter.specs.declared.covered.Read.{Read}
use Rattle.region_cutter.specs.links.GraphSearch.{IsSeen}
use Rattle.region_cutter.specs.links.RemovalPaths.{IsUnwritten}

-- the node's read of that number is one of these elements
pub record IsRead (g : Graph) (read : Read) (elements : Location) : Type 0 where
  pub is : Node
  pub at : NodeAt g read.node is
  pub reads : slice_get is.reads read.number ≡ Some elements

-- no region comes to the read that has not written its elements before
abbrev pub IsCovered : Graph → Boundaries → Read → Type 0
IsCovered g b read = (elements : Location) → IsRead g read elements → ¬ (IsUnwritten g b elements read.node)

pub record IsFlagged (covered : List (Vec Bool Global)) (read : Read) : Type 0 where
  pub flags : Vec Bool Global
  pub at : slice_get covered read.node ≡ Some flags
  pub stands : slice_get flags.items read.number ≡ Some true

-- there is room to flag the read
pub record HasPlace (covered : List (Vec Bool Global)) (read : Read) : Type 0 where
  pub flags : Vec Bool Global
  pub at : slice_get covered read.node ≡ Some flags
  pub within : read.number < length flags.items

-- there is room for each read of the graph, and none is flagged
pub record AreUnflagged (g : Graph) (covered : List (Vec Bool Global)) : Type 0 where
  pub none : (read : Read) → ¬ (IsFlagged covered read)
  pub places : (read : Read) (elements : Location) → IsRead g read elements → HasPlace covered read

abbrev pub AreCovered : Graph → Boundaries → List (Vec Bool Global) → Type 0
AreCovered g b covered = (read : Read) → IsFlagged covered read → IsCovered g b read

-- each read that a trial has found is one
abbrev pub AreFound : Graph → Boundaries → List Read → Type 0
AreFound g b found = (k : ℕ) (read : Read) → slice_get found k ≡ Some read → IsCovered g b read

-- after a trial of that boundary they are: without it, or with it where it stands again
pub record AreCoveredAfter (g : Graph) (now : Boundaries) (node : ℕ) (gone : Bool) (old new : List (Vec Bool Global)) : Type 0 where
  pub without_it : gone ≡ true → AreCovered g now new
  pub with_it : (b : Boundaries) → gone ≡ false → now ≡ without b node → HasBefore b node → AreCovered g b old → AreCovered g b new

-- it is one of those found, and all of them are noted or its node is not among these
pub record IsNoted (found : List Read) (ahead : List Bool) (all : Bool) (read : Read) : Type 0 where
  pub place : ℕ
  pub is : slice_get found place ≡ Some read
  pub free : IsTrue all ⊎ ¬ (IsSeen ahead read.node)

-- where there is room for them these are flagged too, and nothing else is new
pub record Notes (found : List Read) (ahead : List Bool) (all : Bool) (old new : List (Vec Bool Global)) : Type 0 where
  pub kept : (read : Read) → IsFlagged old read → IsFlagged new read
  pub new_is : (read : Read) → IsFlagged new read → IsFlagged old read ⊎ IsNoted found ahead all read
  pub noted : (read : Read) → IsNoted found ahead all read → HasPlace old read → IsFlagged new read

-- where there is room for the read it is flagged too, and nothing else is new
pub record Flags (read : Read) (old new : List (Vec Bool Global)) : Type 0 where
  pub kept : (other : Read) → IsFlagged old other → IsFlagged new other
  pub places : (other : Read) → HasPlace old other → HasPlace new other
  pub new_is : (other : Read) → IsFlagged new other → IsFlagged old other ⊎ (other ≡ read)
  pub flagged : HasPlace old read → IsFlagged new read
